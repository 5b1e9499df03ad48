-- Where a line stops being as expected, word by word.
use Rattle.std.proofs.Common.{◌≡◌, ℕ, Bool, true, false, cond, List, [], ◌∷◌, ◌++◌, refl, sym, ap, ◌∙◌}
use Rattle.std.specs.Prelude.{Option, Some, None, Result, Ok, Err, is_some}
use Rattle.sts_asm.specs.declared.fault.AsmKind.{AsmKind}
use Rattle.sts_asm.specs.declared.fault.AsmKind.TheVariants.{BadOperands}
use Rattle.sts_asm.specs.Fault.{◌>>=◌}
use Rattle.sts_asm.specs.Operand.{wanted, finished}
use Rattle.look_text.specs.declared.wanted.Expected.{Expected}
use Rattle.look_text.specs.declared.wanted.Expected.TheVariants as w
use Rattle.look_text.specs.Wanted.{Stop, stop, behind, fits, after}
use Rattle.look_text.specs.WrongWord.{Allows, IsWrong, wrong, missing, Stops}
use Rattle.laws_words.proofs.OptionLemmas.{none_of}

-- The state in which reading begins, and what is expected there.
abbrev pub StopsFrom : {X : Type 0} → Expected → (List (List ℕ) → Result X AsmKind) → Type 0
StopsFrom {X} s read = (kind : AsmKind) (words : List (List ℕ)) → read words ≡ Err kind → Stops read kind words (stop s words)

-- reading fails after this word, whatever follows
abbrev pub FailsAfter : {X : Type 0} → (List (List ℕ) → Result X AsmKind) → List ℕ → Type 0
FailsAfter {X} read word = (kind : AsmKind) × ((more : List (List ℕ)) → read (word ∷ more) ≡ Err kind)

-- after this word, which is expected, reading goes on by `next`, and stops where that is not as expected
abbrev pub GoesOnAfter : {X : Type 0} → Expected → (List (List ℕ) → Result X AsmKind) → List ℕ → Type 0
GoesOnAfter {X} s read word = (next : List (List ℕ) → Result X AsmKind) × (((more : List (List ℕ)) → read (word ∷ more) ≡ next more) × StopsFrom (after s word) next)

pub same_kind : {X : Type 0} (a b : AsmKind) (r : Result X AsmKind) → r ≡ Err a → r ≡ Err b → a ≡ b
same_kind a b r e f = cc

-- words with which all is well
pub allows : {X : Type 0} (read : List (List ℕ) → Result X AsmKind) (more : List (List ℕ)) (x : X) → read more ≡ Ok x → (kind : AsmKind) → Allows read kind []
allows read more x e kind = (more, λ q. absurd (cc))

-- one word more before
pub one_before : {X : Type 0} (read next : List (List ℕ) → Result X AsmKind) (kind : AsmKind) (first : List ℕ) (words before : List (List ℕ)) (word : Option (List ℕ)) → ((more : List (List ℕ)) → read (first ∷ more) ≡ next more) → IsWrong next kind words before word → IsWrong read kind (first ∷ words) (first ∷ before) word
one_before read next kind first words before word shift (wrong v rest e l s) =
    wrong v rest (ap (λ (xs : List (List ℕ)). first ∷ xs) e) (l.0, λ q. l.1 (sym (shift (before ++ l.0)) ∙ q)) (λ more. shift ((before ++ v ∷ []) ++ more) ∙ s more)
one_before read next kind first words before word shift (missing e l) =
    missing (ap (λ (xs : List (List ℕ)). first ∷ xs) e) (l.0, λ q. l.1 (sym (shift (before ++ l.0)) ∙ q))

-- One word is expected. Another word makes the fault certain; after the expected one reading goes
-- on.
pub one_on : {X : Type 0} (s : Expected) (read : List (List ℕ) → Result X AsmKind) (kind : AsmKind) (word : List ℕ) (words : List (List ℕ)) → Allows read kind []
    → (fits s word ≡ false → (bad : AsmKind) × ((more : List (List ℕ)) → read (word ∷ more) ≡ Err bad))
    → (fits s word ≡ true → (next : List (List ℕ) → Result X AsmKind) × (((more : List (List ℕ)) → read (word ∷ more) ≡ next more) × (next words ≡ Err kind → Stops next kind words (stop (after s word) words))))
    → read (word ∷ words) ≡ Err kind → Stops read kind (word ∷ words) (stop s (word ∷ words))
one_on {X} s read kind word words allowed bad good e = by (fits s word) refl
  where
    by : (b : Bool) → fits s word ≡ b → Stops read kind (word ∷ words) (cond b (behind word (stop (after s word) words)) (record { before = []; word = Some word; wanted = s }))
    by true q =
        let g = good q in
        let last : Stop = stop (after s word) words in
        one_before read g.0 kind word words last.before last.word g.1.0 (g.1.1 (sym (g.1.0 words) ∙ e))
    by false q =
        let h = bad q in
        let same : h.0 ≡ kind = same_kind h.0 kind (read (word ∷ words)) (h.1 words) e in
        wrong word words refl allowed (λ more. h.1 more ∙ ap (λ (k : AsmKind). Err k) same)

pub one : {X : Type 0} (s : Expected) (read : List (List ℕ) → Result X AsmKind) → ((kind : AsmKind) → Allows read kind [])
    → ((word : List ℕ) → fits s word ≡ false → FailsAfter read word) → ((word : List ℕ) → fits s word ≡ true → GoesOnAfter s read word) → StopsFrom s read
one s read allowed bad good kind [] e = missing refl (allowed kind)
one s read allowed bad good kind (word ∷ words) e =
    one_on s read kind word words (allowed kind) (bad word) (λ q. let g = good word q in (g.0, (g.1.0, λ h. g.1.1 kind words h))) e

-- A word is expected that spells something.
pub spelled : {A X : Type 0} (s : Expected) (f : List ℕ → Option A) (kind : AsmKind) (next : A → List (List ℕ) → Result X AsmKind) (read : List (List ℕ) → Result X AsmKind)
    → ((kind : AsmKind) → Allows read kind []) → ((word : List ℕ) → fits s word ≡ is_some (f word))
    → ((word : List ℕ) (more : List (List ℕ)) → read (word ∷ more) ≡ (wanted kind (f word) more >>= λ a. next a.0 a.1))
    → ((word : List ℕ) (a : A) → StopsFrom (after s word) (next a))
    → StopsFrom s read
spelled {A} {X} s f kind next read allowed same reads rest = one s read allowed bad good
  where
    bad : (word : List ℕ) → fits s word ≡ false → FailsAfter read word
    bad word q = let none : f word ≡ None = none_of (f word) (sym (same word) ∙ q) in (kind, λ more. reads word more ∙ rw none refl)

    by : (word : List ℕ) (o : Option A) → f word ≡ o → fits s word ≡ true → GoesOnAfter s read word
    by word None h q = let no : false ≡ true = sym (ap (λ (o : Option A). is_some o) h) ∙ sym (same word) ∙ q in absurd (cc)
    by word (Some a) h q = (next a, ((λ more. reads word more ∙ rw h refl), rest word a))

    good : (word : List ℕ) → fits s word ≡ true → GoesOnAfter s read word
    good word q = by word (f word) refl q

-- nothing more
pub nothing : {X : Type 0} (x : X) → StopsFrom w.Nothing (finished x)
nothing x = one w.Nothing (finished x) (allows (finished x) [] x refl) (λ word q. (BadOperands, λ more. refl)) (λ word q. absurd (cc))
