-- The lines of a text stop being as expected where reading fails.
use Rattle.std.proofs.Common.{◌≡◌, ℕ, Bool, true, false, cond, List, [], ◌∷◌, ◌++◌, refl, sym, ap, ◌∙◌, inl, inr}
use Rattle.std.specs.Prelude.{Option, Some, None, Result, Ok, Err, is_some, codes, ◌&&◌, ◌||◌, ◌==◌, slice_set}
use Rattle.std.specs.Str.{bytes_eq}
use Rattle.std.proofs.lemmas.Bool.{or_parts}
use Rattle.sts_code.specs.declared.profile.Profile.{Profile}
use Rattle.sts_code.specs.declared.profile.Profile.TheVariants.{One, Two}
use Rattle.sts_text.specs.Number.{number_up_to}
use Rattle.sts_asm.specs.declared.fault.AsmKind.{AsmKind}
use Rattle.sts_asm.specs.declared.fault.AsmKind.TheVariants.{BadNumber, BadOperands, UnknownWord, Unclosed, DuplicateLabel}
use Rattle.sts_asm.specs.declared.mnemonic.Mnemonic.{Mnemonic}
use Rattle.sts_asm.specs.Fault.{◌>>=◌}
use Rattle.sts_asm.specs.Line.{known, mnemonic_of}
use Rattle.sts_asm.specs.Operand.{number_at, named, finished}
use Rattle.sts_asm.specs.Marks.{marked}
use Rattle.sts_asm.specs.Outline.{Draft, Outline, profile_of, profile_at, profiled, with_keys, no_needs, keys_at, needs_at}
use Rattle.sts_asm.specs.Outline.{header_at, with_function, begun, ended, label_of, labelled, with_label, with_sentence, inner, inside, said}
use Rattle.look_text.specs.declared.wanted.Expected.{Expected}
use Rattle.look_text.specs.declared.wanted.Expected.TheVariants as w
use Rattle.look_text.specs.Wanted.{fits, stop, of_mnemonic, after_inner, after_first, is_profile}
use Rattle.look_text.specs.WrongWord.{IsWrong, wrong, missing, Stops, IsOfOperand}
use Rattle.look_text.proofs.StopLemmas.{StopsFrom, allows, one, one_on, spelled, nothing, same_kind}
use Rattle.look_text.proofs.OperandLemmas.{named_fits, operands}
use Rattle.laws_words.proofs.OptionLemmas.{none_of}
use Rattle.sts_asm.proofs.TableLemmas.{same}
use Rattle.sts_asm.proofs.TextLemmas.{mapped_err}

-- ---- what is read is put elsewhere

failed_on : {X Y : Type 0} (f : X → Y) (r : Result X AsmKind) (kind : AsmKind) → r ≡ Err kind → (r >>= λ x. Ok (f x)) ≡ Err kind
failed_on f r kind e = rw e refl

carried_wrong : {X Y : Type 0} (f : List (List ℕ) → X → Y) (read : List (List ℕ) → Result X AsmKind) (kind : AsmKind) (words before : List (List ℕ)) (word : Option (List ℕ)) → IsWrong read kind words before word → IsWrong (λ ws. read ws >>= λ x. Ok (f ws x)) kind words before word
carried_wrong f read kind words before word (wrong v rest e l s) =
    wrong v rest e (l.0, λ q. l.1 (mapped_err (read (before ++ l.0)) (f (before ++ l.0)) kind q)) (λ more. failed_on (f ((before ++ v ∷ []) ++ more)) (read ((before ++ v ∷ []) ++ more)) kind (s more))
carried_wrong f read kind words before word (missing e l) = missing e (l.0, λ q. l.1 (mapped_err (read (before ++ l.0)) (f (before ++ l.0)) kind q))

pub carried : {X Y : Type 0} (s : Expected) (f : List (List ℕ) → X → Y) (read : List (List ℕ) → Result X AsmKind) → StopsFrom s read → StopsFrom s (λ ws. read ws >>= λ x. Ok (f ws x))
carried s f read all kind words e = carried_wrong f read kind words (stop s words).before (stop s words).word (all kind words (mapped_err (read words) (f words) kind e))

-- ---- `func`

keys_on : (needs : List Bool) (kind : AsmKind) (word : List ℕ) (rest : List (List ℕ)) → ((after : List Bool) → with_keys after rest ≡ Err kind → Stops (with_keys after) kind rest (stop w.Key rest)) → with_keys needs (word ∷ rest) ≡ Err kind → Stops (with_keys needs) kind (word ∷ rest) (stop w.Key (word ∷ rest))
keys_on needs kind word rest more_keys e = one_on w.Key (with_keys needs) kind word rest (allows (with_keys needs) [] needs refl kind) bad (λ q. by (number_up_to 15 word) refl q) e
  where
    bad : fits w.Key word ≡ false → (k : AsmKind) × ((more : List (List ℕ)) → with_keys needs (word ∷ more) ≡ Err k)
    bad q = let none : number_up_to 15 word ≡ None = none_of (number_up_to 15 word) q in (BadNumber, λ more. rw none refl)

    by : (o : Option ℕ) → number_up_to 15 word ≡ o → fits w.Key word ≡ true → (n : List (List ℕ) → Result (List Bool) AsmKind) × (((more : List (List ℕ)) → with_keys needs (word ∷ more) ≡ n more) × (n rest ≡ Err kind → Stops n kind rest (stop w.Key rest)))
    by None h q = let no : false ≡ true = sym (ap (λ (o : Option ℕ). is_some o) h) ∙ q in absurd (cc)
    by (Some k) h q = (with_keys (slice_set needs k true), ((λ more. rw h refl), λ g. more_keys (slice_set needs k true) g))

keys : (needs : List Bool) (kind : AsmKind) (words : List (List ℕ)) → with_keys needs words ≡ Err kind → Stops (with_keys needs) kind words (stop w.Key words)
keys needs kind [] e = absurd (cc)
keys needs kind (word ∷ rest) e = keys_on needs kind word rest (λ n g. keys n kind rest g) e

some_keys : StopsFrom w.Key keys_at
some_keys = one w.Key keys_at (allows keys_at (codes "0" ∷ []) _ refl) bad (λ word q. by word (number_up_to 15 word) refl q)
  where
    bad : (word : List ℕ) → fits w.Key word ≡ false → (k : AsmKind) × ((more : List (List ℕ)) → keys_at (word ∷ more) ≡ Err k)
    bad word q = let none : number_up_to 15 word ≡ None = none_of (number_up_to 15 word) q in (BadNumber, λ more. rw none refl)

    by : (word : List ℕ) (o : Option ℕ) → number_up_to 15 word ≡ o → fits w.Key word ≡ true → (n : List (List ℕ) → Result (List Bool) AsmKind) × (((more : List (List ℕ)) → keys_at (word ∷ more) ≡ n more) × StopsFrom w.Key n)
    by word None h q = let no : false ≡ true = sym (ap (λ (o : Option ℕ). is_some o) h) ∙ q in absurd (cc)
    by word (Some k) h q = (with_keys (slice_set no_needs k true), ((λ more. rw h refl), λ kind words g. keys (slice_set no_needs k true) kind words g))

needed : StopsFrom w.Needs needs_at
needed = one w.Needs needs_at (allows needs_at [] no_needs refl) (λ word q. (BadOperands, λ more. rw q refl)) (λ word q. (keys_at, ((λ more. rw q refl), some_keys)))

arguments : {X : Type 0} (build : ℕ → List Bool → X) → StopsFrom w.Args (λ ws. number_at 255 ws >>= λ args. (needs_at args.1 >>= λ needs. Ok (build args.0 needs)))
arguments build =
    spelled w.Args (number_up_to 255) BadNumber (λ n ws. needs_at ws >>= λ needs. Ok (build n needs)) (λ ws. number_at 255 ws >>= λ args. (needs_at args.1 >>= λ needs. Ok (build args.0 needs)))
    (allows (λ ws. number_at 255 ws >>= λ args. (needs_at args.1 >>= λ needs. Ok (build args.0 needs))) (codes "0" ∷ []) _ refl) (λ word. refl) (λ word more. refl)
    (λ word n. carried w.Needs (λ ws. build n) needs_at needed)

header : StopsFrom w.Name header_at
header =
    spelled w.Name named BadOperands (λ name ws. number_at 255 ws >>= λ args. (needs_at args.1 >>= λ needs. Ok (record { name = name; args = args.0; needs = needs; labels = []; code = [] }))) header_at
    (allows header_at (codes "a" ∷ codes "0" ∷ []) _ refl) (λ word. named_fits _ word) (λ word more. refl)
    (λ word name. arguments (λ args needs. record { name = name; args = args; needs = needs; labels = []; code = [] }))

-- ---- `profile`

one_or_two : (a b : Bool) → (a || b) ≡ false → cond {A = Result Profile AsmKind} a (Ok One) (cond b (Ok Two) (Err BadNumber)) ≡ Err BadNumber
one_or_two true b e = absurd (cc)
one_or_two false true e = absurd (cc)
one_or_two false false e = refl

one_or_two_well : (a b : Bool) → (a || b) ≡ true → (p : Profile) × (cond {A = Result Profile AsmKind} a (Ok One) (cond b (Ok Two) (Err BadNumber)) ≡ Ok p)
one_or_two_well true b e = (One, refl)
one_or_two_well false true e = (Two, refl)
one_or_two_well false false e = absurd (cc)

no_profile : (o : Option ℕ) → is_profile o ≡ false → profile_of o ≡ Err BadNumber
no_profile None e = refl
no_profile (Some n) e = one_or_two (n == 1) (n == 2) e

some_profile : (o : Option ℕ) → is_profile o ≡ true → (p : Profile) × (profile_of o ≡ Ok p)
some_profile None e = absurd (cc)
some_profile (Some n) e = one_or_two_well (n == 1) (n == 2) e

profile_word : StopsFrom w.Profile profile_at
profile_word = one w.Profile profile_at (allows profile_at (codes "1" ∷ []) One refl) (λ word q. (BadNumber, λ more. ap (λ (r : Result Profile AsmKind). r >>= λ p. finished p more) (no_profile (number_up_to 2 word) q))) good
  where
    good : (word : List ℕ) → fits w.Profile word ≡ true → (n : List (List ℕ) → Result Profile AsmKind) × (((more : List (List ℕ)) → profile_at (word ∷ more) ≡ n more) × StopsFrom w.Nothing n)
    good word q = let p = some_profile (number_up_to 2 word) q in (finished p.0, ((λ more. ap (λ (r : Result Profile AsmKind). r >>= λ p. finished p more) p.1), nothing p.0))

-- ---- a line, where the fault is of an operand

abbrev pub OperandsFrom : {X : Type 0} → Expected → (List (List ℕ) → Result X AsmKind) → Type 0
OperandsFrom {X} s read = (kind : AsmKind) (words : List (List ℕ)) → IsOfOperand kind → read words ≡ Err kind → Stops read kind words (stop s words)

pub all_operands : {X : Type 0} (s : Expected) (read : List (List ℕ) → Result X AsmKind) → StopsFrom s read → OperandsFrom s read
all_operands s read all kind words is e = all kind words e

pub carried_operands : {X Y : Type 0} (s : Expected) (f : List (List ℕ) → X → Y) (read : List (List ℕ) → Result X AsmKind) → OperandsFrom s read → OperandsFrom s (λ ws. read ws >>= λ x. Ok (f ws x))
carried_operands s f read all kind words is e = carried_wrong f read kind words (stop s words).before (stop s words).word (all kind words is (mapped_err (read words) (f words) kind e))

no_word : (kind : AsmKind) → IsOfOperand kind → UnknownWord ≡ kind → ⊥
no_word kind (inl e) q = let no : UnknownWord ≡ BadNumber = q ∙ e in absurd (cc)
no_word kind (inr e) q = let no : UnknownWord ≡ BadOperands = q ∙ e in absurd (cc)

no_end : (kind : AsmKind) → IsOfOperand kind → Unclosed ≡ kind → ⊥
no_end kind (inl e) q = let no : Unclosed ≡ BadNumber = q ∙ e in absurd (cc)
no_end kind (inr e) q = let no : Unclosed ≡ BadOperands = q ∙ e in absurd (cc)

no_duplicate : (kind : AsmKind) → IsOfOperand kind → DuplicateLabel ≡ kind → ⊥
no_duplicate kind (inl e) q = let no : DuplicateLabel ≡ BadNumber = q ∙ e in absurd (cc)
no_duplicate kind (inr e) q = let no : DuplicateLabel ≡ BadOperands = q ∙ e in absurd (cc)

begun_on : (o : Outline) (b : Bool) → OperandsFrom w.Name (λ ws. cond b (Err Unclosed) (header_at ws >>= λ d. Ok (with_function o d)))
begun_on o true kind words is e = absurd (no_end kind is (same_kind Unclosed kind _ refl e))
begun_on o false kind words is e = carried w.Name (λ ws. with_function o) header_at header kind words e

ended_on : (o : Outline) (c : Option Draft) → OperandsFrom w.Nothing (ended o c)
ended_on o None kind words is e = absurd (no_word kind is (same_kind UnknownWord kind _ refl e))
ended_on o (Some d) kind words is e = nothing (record o { done = o.done ++ d ∷ []; current = None }) kind words e

label_duplicate : (d : Draft) (name : List ℕ) (b : Bool) (kind : AsmKind) → IsOfOperand kind → cond {A = Result Draft AsmKind} b (Err DuplicateLabel) (Ok (with_label d name)) ≡ Err kind → ⊥
label_duplicate d name true kind is e = no_duplicate kind is (same_kind DuplicateLabel kind _ refl e)
label_duplicate d name false kind is e = absurd (cc)

label_alone : (d : Draft) (name : List ℕ) → OperandsFrom w.Nothing (λ ws. finished name ws >>= λ n. labelled d n)
label_alone d name kind [] is e = absurd (label_duplicate d name (is_some (marked d.labels name)) kind is e)
label_alone d name kind (word ∷ rest) is e = one_on w.Nothing (λ ws. finished name ws >>= λ n. labelled d n) kind word rest ([], label_duplicate d name (is_some (marked d.labels name)) kind is) (λ q. (BadOperands, λ more. refl)) (λ q. absurd (cc)) e

known_operands : (m : Option Mnemonic) → OperandsFrom (of_mnemonic m) (known None m)
known_operands None kind words is e = absurd (no_word kind is (same_kind UnknownWord kind _ refl e))
known_operands (Some m) kind words is e = operands m kind words e

inner_operands : (at : ℕ) (d : Draft) (l : Option (List ℕ)) (first : List ℕ) → OperandsFrom (cond (is_some l) w.Nothing (of_mnemonic (mnemonic_of first))) (λ ws. inner at d l first ws)
inner_operands at d None first = carried_operands (of_mnemonic (mnemonic_of first)) (λ ws i. with_sentence at d (first ∷ ws)) (λ ws. known None (mnemonic_of first) ws) (known_operands (mnemonic_of first))
inner_operands at d (Some name) first = label_alone d name

inside_operands : (at : ℕ) (o : Outline) (c : Option Draft) (first : List ℕ) → OperandsFrom (after_inner first) (λ ws. inside at o c first ws)
inside_operands at o None first = λ kind words is e. absurd (no_word kind is (same_kind UnknownWord kind _ refl e))
inside_operands at o (Some d) first = carried_operands (after_inner first) (λ ws e. record o { current = Some e }) (λ ws. inner at d (label_of first) first ws) (inner_operands at d (label_of first) first)

and_false : (a b : Bool) → b ≡ false → (a && b) ≡ false
and_false true b e = e
and_false false b e = refl

-- a first word that begins no line
inside_unknown : (at : ℕ) (o : Outline) (c : Option Draft) (first : List ℕ) (more : List (List ℕ)) → label_of first ≡ None → mnemonic_of first ≡ None → inside at o c first more ≡ Err UnknownWord
inside_unknown at o None first more l m = refl
inside_unknown at o (Some d) first more l m = rw (l, m) refl

profiled_operands : (o : Outline) → OperandsFrom w.Profile (profiled o)
profiled_operands o = all_operands w.Profile (profiled o) (carried w.Profile (λ ws p. record o { profile = p }) profile_at profile_word)

line_operands : (at : ℕ) (o : Outline) (kind : AsmKind) (first : List ℕ) (rest : List (List ℕ)) → IsOfOperand kind → said at o (first ∷ rest) ≡ Err kind → Stops (said at o) kind (first ∷ rest) (stop w.First (first ∷ rest))
line_operands at o kind first rest is e = one_on w.First (said at o) kind first rest (allows (said at o) [] o refl kind) bad (λ q. by_func (bytes_eq first (codes "func")) refl) e
  where
    said_inside : (more : List (List ℕ)) → bytes_eq first (codes "func") ≡ false → bytes_eq first (codes "end") ≡ false → (at == 1 && bytes_eq first (codes "profile")) ≡ false → said at o (first ∷ more) ≡ inside at o o.current first more
    said_inside more n1 n2 p = rw (n1, n2, p) refl

    bad : fits w.First first ≡ false → (k : AsmKind) × ((more : List (List ℕ)) → said at o (first ∷ more) ≡ Err k)
    bad q =
        let n1 = (or_parts (bytes_eq first (codes "func")) (bytes_eq first (codes "end") || (bytes_eq first (codes "profile") || (is_some (label_of first) || is_some (mnemonic_of first)))) q).0 in
        let q1 = (or_parts (bytes_eq first (codes "func")) (bytes_eq first (codes "end") || (bytes_eq first (codes "profile") || (is_some (label_of first) || is_some (mnemonic_of first)))) q).1 in
        let n2 = (or_parts (bytes_eq first (codes "end")) (bytes_eq first (codes "profile") || (is_some (label_of first) || is_some (mnemonic_of first))) q1).0 in
        let q2 = (or_parts (bytes_eq first (codes "end")) (bytes_eq first (codes "profile") || (is_some (label_of first) || is_some (mnemonic_of first))) q1).1 in
        let n3 = (or_parts (bytes_eq first (codes "profile")) (is_some (label_of first) || is_some (mnemonic_of first)) q2).0 in
        let q3 = (or_parts (bytes_eq first (codes "profile")) (is_some (label_of first) || is_some (mnemonic_of first)) q2).1 in
        let l : label_of first ≡ None = none_of (label_of first) (or_parts (is_some (label_of first)) (is_some (mnemonic_of first)) q3).0 in
        let m : mnemonic_of first ≡ None = none_of (mnemonic_of first) (or_parts (is_some (label_of first)) (is_some (mnemonic_of first)) q3).1 in
        let p : (at == 1 && bytes_eq first (codes "profile")) ≡ false = and_false (at == 1) (bytes_eq first (codes "profile")) n3 in
        (UnknownWord, λ more. said_inside more n1 n2 p ∙ inside_unknown at o o.current first more l m)

    Good : Type 0
    Good = (n : List (List ℕ) → Result Outline AsmKind) × (((more : List (List ℕ)) → said at o (first ∷ more) ≡ n more) × (n rest ≡ Err kind → Stops n kind rest (stop (after_first first) rest)))

    by_first : (b : Bool) → bytes_eq first (codes "func") ≡ false → bytes_eq first (codes "end") ≡ false → bytes_eq first (codes "profile") ≡ true → (at == 1) ≡ b → Good
    by_first true f e p a = (profiled o, ((λ more. rw (f, e, a, p) refl), rw (f, e, p) (λ g. profiled_operands o kind rest is g)))
    by_first false f e p a =
        let word : first ≡ codes "profile" = same first (codes "profile") p in
        let l : label_of first ≡ None = rw word refl in
        let m : mnemonic_of first ≡ None = rw word refl in
        ((λ more. inside at o o.current first more), ((λ more. rw (f, e, a) refl), λ g. absurd (no_word kind is (same_kind UnknownWord kind _ refl (sym (inside_unknown at o o.current first rest l m) ∙ g)))))

    by_profile : (b : Bool) → bytes_eq first (codes "func") ≡ false → bytes_eq first (codes "end") ≡ false → bytes_eq first (codes "profile") ≡ b → Good
    by_profile true f e p = by_first (at == 1) f e p refl
    by_profile false f e p =
        let q : (at == 1 && bytes_eq first (codes "profile")) ≡ false = and_false (at == 1) (bytes_eq first (codes "profile")) p in
        ((λ more. inside at o o.current first more), ((λ more. said_inside more f e q), rw (f, e, p) (λ g. inside_operands at o o.current first kind rest is g)))

    by_end : (b : Bool) → bytes_eq first (codes "func") ≡ false → bytes_eq first (codes "end") ≡ b → Good
    by_end true f e = (ended o o.current, ((λ more. rw (f, e) refl), rw (f, e) (λ g. ended_on o o.current kind rest is g)))
    by_end false f e = by_profile (bytes_eq first (codes "profile")) f e refl

    by_func : (b : Bool) → bytes_eq first (codes "func") ≡ b → Good
    by_func true f = (begun o, ((λ more. rw f refl), rw f (λ g. begun_on o (is_some o.current) kind rest is g)))
    by_func false f = by_end (bytes_eq first (codes "end")) f refl

-- a whole line
pub words_operands : (at : ℕ) (o : Outline) (kind : AsmKind) (words : List (List ℕ)) → IsOfOperand kind → said at o words ≡ Err kind → Stops (said at o) kind words (stop w.First words)
words_operands at o kind [] is e = absurd (cc)
words_operands at o kind (first ∷ rest) is e = line_operands at o kind first rest is e
