-- The words for a part of a typestate are read back.
use Rattle.std.proofs.Common.{◌≡◌, ℕ, Bool, true, false, List, [], ◌∷◌, ◌++◌, refl, sym, ap, ◌∙◌, append_assoc, append-nil, arith, get_or}
use Rattle.std.specs.Prelude.{codes}
use Rattle.std.specs.List.{flat_map, AllByRecursion}
use Rattle.std.specs.Fmt.{decimal, signed_decimal}
use Rattle.std.proofs.lemmas.Fmt.{decimal_injective}
use Rattle.sts_code.specs.declared.instr.Joiner.{Joiner}
use Rattle.sts_code.specs.declared.instr.Joiner.TheVariants.{AllSucceed, AnySucceeds, AwaitOk, AwaitAll, Until}
use Rattle.sts_code.specs.declared.instr.Pred.{Pred}
use Rattle.sts_code.specs.declared.instr.Pred.TheVariants as pred
use Rattle.sts_rules.specs.TypeState.{TypeState, kind}
use Rattle.sts_rules.specs.declared.typing.Known.{Known}
use Rattle.sts_rules.specs.declared.typing.Known.TheVariants as known
use Rattle.sts_rules.specs.declared.typing.SlotKind.{SlotKind}
use Rattle.sts_rules.specs.declared.typing.SlotKind.TheVariants.{Empty, Own, Lent, Sub}
use Rattle.sts_rules.specs.declared.typing.TypedPhase.{TypedPhase}
use Rattle.sts_rules.specs.declared.typing.TypedPhase.TheVariants.{Opened, Attempted, Joined, Late}
use Rattle.sts_rules.specs.declared.typing.TypedScope.{TypedScope}
use Rattle.sts_rules.specs.declared.typing.TypedEntry.{TypedEntry}
use Rattle.sts_rules.specs.declared.typing.TypedEntry.TheVariants.{Scope, Binding}
use Rattle.sts_rules.specs.declared.typing.TypedLoop.{TypedLoop}
use Rattle.sts_list.specs.Spelling.{after_spaces, joiner_words, timed_words}
use Rattle.look_refusal.specs.declared.parts.Part.{Part}
use Rattle.look_refusal.specs.declared.parts.Part.TheVariants.{Operands, Loops, Open, Slot}
use Rattle.look_refusal.specs.Differences.{IsSamePart, known_word, kind_words, phase_words, entry_words, loop_words, listed, part_words}
use Rattle.look_refusal.specs.Reading.{IsHeldCondition, IsHeldJoiner, IsHeldEntry, IsHeldLoop, IsHeldKind, IsHeldIn, PartsReadApart}
use Rattle.look_refusal.proofs.Digits.{NoDigit, number_read, value_read}

-- texts that are the same have the same byte there
byte : (i : ℕ) {xs ys : List ℕ} → xs ≡ ys → get_or xs i 0 ≡ get_or ys i 0
byte i e = ap (λ (xs : List ℕ). get_or xs i 0) e

-- ---- slots

known_read : (k l : Known) (xs ys : List ℕ) → known_word k ++ xs ≡ known_word l ++ ys → (k ≡ l) × (xs ≡ ys)
known_read known.Unknown known.Unknown xs ys e = (refl, cc)
known_read known.Success known.Success xs ys e = (refl, cc)
known_read known.Failed known.Failed xs ys e = (refl, cc)
known_read k l xs ys e = absurd (omega (arith, byte 0 e))

subtask_split : (x : ℕ) (k : Known) → kind_words (Sub x k) ≡ 32 ∷ (known_word k ++ (codes ", of s" ++ decimal x))
subtask_split x k = simp append_assoc

kind_read : (s t : SlotKind) → IsHeldKind s → IsHeldKind t → kind_words s ≡ kind_words t → s ≡ t
kind_read Empty Empty f g e = refl
kind_read Own Own f g e = refl
kind_read Lent Lent f g e = refl
kind_read (Sub x k) (Sub y l) f g e =
    let whole = sym (subtask_split x k) ∙ e ∙ subtask_split y l in
    let rest : known_word k ++ (codes ", of s" ++ decimal x) ≡ known_word l ++ (codes ", of s" ++ decimal y) = cc in
    let h = known_read k l (codes ", of s" ++ decimal x) (codes ", of s" ++ decimal y) rest in
    let number : decimal x ≡ decimal y = cc in
    let same = decimal_injective x y f g number in
    cc
kind_read (Sub x known.Unknown) t f g e = absurd (omega (arith, byte 1 e))
kind_read (Sub x known.Success) t f g e = absurd (omega (arith, byte 1 e))
kind_read (Sub x known.Failed) t f g e = absurd (omega (arith, byte 1 e))
kind_read s (Sub y known.Unknown) f g e = absurd (omega (arith, byte 1 e))
kind_read s (Sub y known.Success) f g e = absurd (omega (arith, byte 1 e))
kind_read s (Sub y known.Failed) f g e = absurd (omega (arith, byte 1 e))
kind_read s t f g e = absurd (omega (arith, byte 1 e))

-- ---- entries

condition_read : (c d : Pred) (xs ys : List ℕ) → IsHeldCondition c → IsHeldCondition d → NoDigit xs → NoDigit ys → after_spaces (joiner_words (Until c)) ++ xs ≡ after_spaces (joiner_words (Until d)) ++ ys → (c ≡ d) × (xs ≡ ys)
condition_read (pred.Failed m) (pred.Failed n) xs ys f g k l e =
    let rest : (decimal m ++ []) ++ xs ≡ (decimal n ++ []) ++ ys = cc in
    let h = number_read m n xs ys f g k l (simp append-nil at rest) in
    (ap pred.Failed h.0, h.1)
condition_read (pred.Success m) (pred.Success n) xs ys f g k l e =
    let rest : (decimal m ++ []) ++ xs ≡ (decimal n ++ []) ++ ys = cc in
    let h = number_read m n xs ys f g k l (simp append-nil at rest) in
    (ap pred.Success h.0, h.1)
condition_read (pred.AtLeast y) (pred.AtLeast z) xs ys f g k l e =
    let rest : (signed_decimal y ++ []) ++ xs ≡ (signed_decimal z ++ []) ++ ys = cc in
    let h = value_read y z xs ys f g k l (simp append-nil at rest) in
    (ap pred.AtLeast h.0, h.1)
condition_read c d xs ys f g k l e = absurd (omega (arith, byte 7 e))

joiner_read : (i j : Joiner) (xs ys : List ℕ) → IsHeldJoiner i → IsHeldJoiner j → NoDigit xs → NoDigit ys → after_spaces (joiner_words i) ++ xs ≡ after_spaces (joiner_words j) ++ ys → (i ≡ j) × (xs ≡ ys)
joiner_read AllSucceed AllSucceed xs ys f g k l e = (refl, cc)
joiner_read AnySucceeds AnySucceeds xs ys f g k l e = (refl, cc)
joiner_read AwaitOk AwaitOk xs ys f g k l e = (refl, cc)
joiner_read AwaitAll AwaitAll xs ys f g k l e = (refl, cc)
joiner_read (Until c) (Until d) xs ys f g k l e = let h = condition_read c d xs ys f g k l e in (ap Until h.0, h.1)
joiner_read i j xs ys f g k l e = absurd (omega (arith, byte 1 e, byte 2 e, byte 6 e))

phase_read : (p q : TypedPhase) (xs ys : List ℕ) → phase_words p ++ xs ≡ phase_words q ++ ys → (p ≡ q) × (xs ≡ ys)
phase_read Opened Opened xs ys e = (refl, cc)
phase_read Attempted Attempted xs ys e = (refl, cc)
phase_read Joined Joined xs ys e = (refl, cc)
phase_read Late Late xs ys e = (refl, cc)
phase_read p q xs ys e = absurd (omega (arith, byte 1 e))

-- no phase is called `timed`
not_timed : (p : TypedPhase) (xs ys : List ℕ) → codes " timed" ++ xs ≡ phase_words p ++ ys → ⊥
not_timed Opened xs ys e = omega (arith, byte 1 e)
not_timed _ xs ys e = omega (arith, byte 1 e)

-- what follows the joiner
abbrev ending : Bool → TypedPhase → List ℕ → List ℕ
ending t p more = after_spaces (timed_words t) ++ (phase_words p ++ 41 ∷ more)

ending_read : (t u : Bool) (p q : TypedPhase) (xs ys : List ℕ) → ending t p xs ≡ ending u q ys → (t ≡ u) × ((p ≡ q) × (xs ≡ ys))
ending_read true true p q xs ys e = let h = phase_read p q (41 ∷ xs) (41 ∷ ys) cc in (refl, (h.0, cc))
ending_read false false p q xs ys e = let h = phase_read p q (41 ∷ xs) (41 ∷ ys) e in (refl, (h.0, cc))
ending_read true false p q xs ys e = absurd (not_timed q (phase_words p ++ 41 ∷ xs) (41 ∷ ys) e)
ending_read false true p q xs ys e = absurd (not_timed p (phase_words q ++ 41 ∷ ys) (41 ∷ xs) (sym e))

ending_first : (t : Bool) (p : TypedPhase) (more : List ℕ) → NoDigit (ending t p more)
ending_first true p more = refl
ending_first false Opened more = refl
ending_first false Attempted more = refl
ending_first false Joined more = refl
ending_first false Late more = refl

joiner_first : (j : Joiner) (more : List ℕ) → NoDigit (after_spaces (joiner_words j) ++ more)
joiner_first AllSucceed more = refl
joiner_first _ more = refl

-- what follows the slot
abbrev after_slot : TypedScope → List ℕ → List ℕ
after_slot r more = after_spaces (joiner_words r.joiner) ++ ending r.timed r.phase more

scope_split : (r : TypedScope) (more : List ℕ) → entry_words (Scope r) ++ more ≡ codes " (s" ++ (decimal r.slot ++ after_slot r more)
scope_split r more = simp append_assoc

same_scope : (r s : TypedScope) → r.slot ≡ s.slot → r.joiner ≡ s.joiner → r.timed ≡ s.timed → r.phase ≡ s.phase → r ≡ s
same_scope r s a b c d =
    let is : record { slot = r.slot; joiner = r.joiner; timed = r.timed; phase = r.phase } ≡ record { slot = s.slot; joiner = s.joiner; timed = s.timed; phase = s.phase } = rw (a, b, c, d) refl in is

entry_read : (x y : TypedEntry) (xs ys : List ℕ) → IsHeldEntry x → IsHeldEntry y → entry_words x ++ xs ≡ entry_words y ++ ys → (x ≡ y) × (xs ≡ ys)
entry_read (Scope r) (Scope s) xs ys f g e =
    let whole = sym (scope_split r xs) ∙ e ∙ scope_split s ys in
    let rest : decimal r.slot ++ after_slot r xs ≡ decimal s.slot ++ after_slot s ys = cc in
    let a = number_read r.slot s.slot (after_slot r xs) (after_slot s ys) f.0 g.0 (joiner_first r.joiner (ending r.timed r.phase xs)) (joiner_first s.joiner (ending s.timed s.phase ys)) rest in
    let b = joiner_read r.joiner s.joiner (ending r.timed r.phase xs) (ending s.timed s.phase ys) f.1 g.1 (ending_first r.timed r.phase xs) (ending_first s.timed s.phase ys) a.1 in
    let c = ending_read r.timed s.timed r.phase s.phase xs ys b.1 in
    (ap Scope (same_scope r s a.0 b.0 c.0 c.1.0), c.1.1)
entry_read (Binding m) (Binding n) xs ys f g e =
    let rest : (decimal m ++ codes ")") ++ xs ≡ (decimal n ++ codes ")") ++ ys = cc in
    let h = number_read m n (41 ∷ xs) (41 ∷ ys) f g refl refl (simp append_assoc at rest) in
    (ap Binding h.0, cc)
entry_read x y xs ys f g e = absurd (omega (arith, byte 2 e))

-- ---- loops

-- what follows the place
abbrev after_place : TypedLoop → List ℕ → List ℕ
after_place l more = codes ", " ++ (decimal l.entries ++ (codes " open)" ++ more))

loop_split : (l : TypedLoop) (more : List ℕ) → loop_words l ++ more ≡ codes " (times at " ++ (decimal l.at ++ after_place l more)
loop_split l more = simp append_assoc

same_loop : (k l : TypedLoop) → k.at ≡ l.at → k.entries ≡ l.entries → k ≡ l
same_loop k l a b =
    let is : record { at = k.at; entries = k.entries } ≡ record { at = l.at; entries = l.entries } = rw (a, b) refl in is

loop_read : (k l : TypedLoop) (xs ys : List ℕ) → IsHeldLoop k → IsHeldLoop l → loop_words k ++ xs ≡ loop_words l ++ ys → (k ≡ l) × (xs ≡ ys)
loop_read k l xs ys f g e =
    let whole = sym (loop_split k xs) ∙ e ∙ loop_split l ys in
    let rest : decimal k.at ++ after_place k xs ≡ decimal l.at ++ after_place l ys = cc in
    let a = number_read k.at l.at (after_place k xs) (after_place l ys) f.0 g.0 refl refl rest in
    let later : decimal k.entries ++ (codes " open)" ++ xs) ≡ decimal l.entries ++ (codes " open)" ++ ys) = cc in
    let b = number_read k.entries l.entries (codes " open)" ++ xs) (codes " open)" ++ ys) f.1 g.1 refl refl later in
    (same_loop k l a.0 b.0, cc)

-- ---- lists

-- the words of each value mark their own end, and begin with a parenthesis
record Reads {A : Type 0} (Held : A → Type 0) (words : A → List ℕ) : Type 0 where
  opened : (x : A) → (more : List ℕ) × (words x ≡ codes " (" ++ more)
  read : (x y : A) (xs ys : List ℕ) → Held x → Held y → words x ++ xs ≡ words y ++ ys → (x ≡ y) × (xs ≡ ys)

module _ {A : Type 0} (Held : A → Type 0) (words : A → List ℕ) (h : Reads Held words) where
  -- a value has words that differ from those of no value
  some_words : (x : A) (xs : List ℕ) → words x ++ xs ≡ [] → ⊥
  some_words x xs e = let k = rw (h.opened x).1 at e in cc

  not_none : (x : A) (xs : List ℕ) → words x ++ xs ≡ codes " none" → ⊥
  not_none x xs e = let k = rw (h.opened x).1 at e in cc

  each_read : (xs ys : List A) → AllByRecursion Held xs → AllByRecursion Held ys → flat_map words xs ≡ flat_map words ys → xs ≡ ys
  each_read [] [] f g e = refl
  each_read [] (y ∷ ys) f g e = absurd (some_words y (flat_map words ys) (sym e))
  each_read (x ∷ xs) [] f g e = absurd (some_words x (flat_map words xs) e)
  each_read (x ∷ xs) (y ∷ ys) f g e =
      let first = h.read x y (flat_map words xs) (flat_map words ys) f.0 g.0 e in
      let rest = each_read xs ys f.1 g.1 first.1 in
      cc

  list_read : (xs ys : List A) → AllByRecursion Held xs → AllByRecursion Held ys → listed words xs ≡ listed words ys → xs ≡ ys
  list_read [] [] f g e = refl
  list_read [] (y ∷ ys) f g e = absurd (not_none y (flat_map words ys) (sym e))
  list_read (x ∷ xs) [] f g e = absurd (not_none x (flat_map words xs) e)
  list_read (x ∷ xs) (y ∷ ys) f g e = each_read (x ∷ xs) (y ∷ ys) f g e

entry_opened : (x : TypedEntry) → (more : List ℕ) × (entry_words x ≡ codes " (" ++ more)
entry_opened (Scope r) = (_, refl)
entry_opened (Binding k) = (_, refl)

entries_read : Reads IsHeldEntry entry_words
entries_read = record { opened = entry_opened; read = entry_read }

loops_read : Reads IsHeldLoop loop_words
loops_read = record { opened = λ l. (_, refl); read = loop_read }

-- ---- parts

part_read : (part : Part) (a b : TypeState) → IsHeldIn part a → IsHeldIn part b → part_words part a ≡ part_words part b → IsSamePart part a b
part_read Operands a b f g e = let rest : decimal a.height ≡ decimal b.height = cc in decimal_injective a.height b.height f g rest
part_read Loops a b f g e = list_read IsHeldLoop loop_words loops_read a.loops b.loops f g e
part_read Open a b f g e = list_read IsHeldEntry entry_words entries_read a.entries b.entries f g e
part_read (Slot x) a b f g e = kind_read (kind a x) (kind b x) f g e

pub parts_apart : PartsReadApart
parts_apart part a b f g other e = other (part_read part a b f g e)
