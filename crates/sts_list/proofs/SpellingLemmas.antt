use Rattle.std.proofs.Common.{◌≡◌, ℕ, ◌<◌, ◌≤◌, ◌^◌, ◌-◌, Bool, true, false, List, [], ◌∷◌, ◌++◌, length, refl, sym, ap, subst, append-nil, arith}
use Rattle.std.specs.Prelude.{◌==◌, ◌||◌, nat_lt, Option, Some, None, option_map, codes, ⊤, option_to_list, unwrap_or, map}
use Rattle.std.specs.List.{list_all, AllByRecursion, flat_map}
use Rattle.std.proofs.lemmas.Bool.Decides.{nat_tests}
use Rattle.sts_code.specs.Name.{is_name, is_name_byte}
use Rattle.sts_code.specs.Program.{Program, routine}
use Rattle.sts_code.specs.Checks.{is_past, handle_is_past, is_bad_count, has_bad_count, range_fault, either_fault, any_fault, has_bad_range}
use Rattle.sts_code.specs.Shape.{Operand, Value, Local, Turns, Label, MaybeLabel, InSlot, Handle, Function, State, Key, Rule, Timed, shape, places}
use Rattle.sts_code.specs.declared.instr.Instr.{Instr}
use Rattle.sts_code.specs.declared.instr.Instr.TheVariants as i
use Rattle.sts_code.specs.declared.instr.Joiner.{Joiner}
use Rattle.sts_code.specs.declared.instr.Joiner.TheVariants.{AllSucceed, AnySucceeds, AwaitOk, AwaitAll, Until}
use Rattle.sts_code.specs.declared.instr.Pred.{Pred}
use Rattle.sts_code.specs.declared.instr.Pred.TheVariants.{Failed, Success, AtLeast}
use Rattle.sts_code.specs.declared.instr.Kind.{Kind}
use Rattle.sts_code.specs.declared.instr.Kind.TheVariants.{S}
use Rattle.sts_asm.specs.Marks.{Names, label_in}
use Rattle.std.specs.Fmt.{decimal, signed_decimal}
use Rattle.sts_text.specs.Number.{number_up_to}
use Rattle.sts_asm.specs.Operand as operand
use Rattle.sts_asm.specs.Table.{Spells, IsLabel, IsMaybeLabel, IsFunction, IsHandle, IsKind, IsJoiner, IsTimed, IsOperand, AreOperands}
use Rattle.sts_list.specs.Spelling.{keyword, operands, label, slot, maybe_label, handle, kind_word, joiner_words, condition_words, timed_words, operand_words}
use Rattle.sts_list.specs.Spelling.{words_of}
use Rattle.sts_code.specs.Facts.{targets}
use Rattle.sts_list.specs.RoundTrip.{IsValue, FitsCondition, FitsJoiner, FitsInstr}
use Rattle.sts_list.proofs.ByteLemmas.{is_plain, all_implied, IsWord, AreWords}
use Rattle.sts_list.proofs.DecimalLemmas.{number_read, value_read, value_word, decimal_word, slot_read, slot_word, label_word, label_name}

-- a label of a listing, and what it names
pub record Labels (names : Option Names) (found : ℕ → ℕ) (to : ℕ) : Type 0 where
  pub small : to < 10000
  pub named : label_in names (label to) ≡ Some (found to)

-- an instruction with each label and each function moved to another place
abbrev pub moved : (ℕ → ℕ) → (ℕ → ℕ) → Instr → Instr
moved found other (i.Div to) = i.Div (found to)
moved found other (i.Jmp to) = i.Jmp (found to)
moved found other (i.Jz to) = i.Jz (found to)
moved found other (i.Join s f t r) = i.Join s (option_map found f) (option_map found t) (found r)
moved found other (i.Case h s f) = i.Case h (found s) (found f)
moved found other (i.Fork s f h) = i.Fork s (other f) h
moved found other instr = instr

-- each function that these operands name is found at its place
abbrev pub Finds : Program → Option Names → (ℕ → ℕ) → List Operand → Type 0
Finds p names other [] = ⊤
Finds p names other (Function f ∷ more) = IsFunction names (other f) (routine p f).name × Finds p names other more
Finds p names other (operand ∷ more) = Finds p names other more

-- the function that an instruction forks is found
abbrev pub Forks : Program → Option Names → (ℕ → ℕ) → Instr → Type 0
Forks p names other instr = Finds p names other (shape instr).operands

pub either : (a b : Bool) → (a || b) ≡ false → (a ≡ false) × (b ≡ false)
either true b e = cc
either false b e = (refl, e)

present : (x : ℕ) → is_past x ≡ false → x ≤ 15
present x e = grind (arith, nat_tests)

number_good : (x : ℕ) → is_past x ≡ false → number_up_to 255 (decimal x) ≡ Some x
number_good x e = let h = present x e in number_read 255 x (omega arith) (omega arith)

slot_good : (s : ℕ) → is_past s ≡ false → operand.slot (slot s) ≡ Some s
slot_good s e = let h = present s e in slot_read s (omega arith)

target_good : (names : Option Names) (found : ℕ → ℕ) (to : ℕ) → Labels names found to → IsLabel names (found to) (label to)
target_good names found to h = (label_name to h.small, h.named)

maybe_good : (names : Option Names) (found : ℕ → ℕ) (to : Option ℕ) → AllByRecursion (Labels names found) (option_to_list to) → IsMaybeLabel names (option_map found to) (maybe_label to)
maybe_good names found None h = refl
maybe_good names found (Some to) h = target_good names found to h.0

handle_good : (h : Option ℕ) → handle_is_past h ≡ false → IsHandle h (handle h)
handle_good None e = refl
handle_good (Some s) e = slot_good s e

count_good : (n : ℕ) → is_bad_count n ≡ false → n ≤ 65536
count_good n e = let h = either (n == 0) (nat_lt 65536 n) e in grind (arith, nat_tests, h.1)

condition_good : (c : Pred) → has_bad_count (Until c) ≡ false → FitsCondition c → IsJoiner (Until c) (joiner_words (Until c))
condition_good (Failed n) e f = let h = count_good n e in (decimal n, refl, number_read (2 ^ 32 - 1) n (omega arith) (omega arith))
condition_good (Success n) e f = let h = count_good n e in (decimal n, refl, number_read (2 ^ 32 - 1) n (omega arith) (omega arith))
condition_good (AtLeast v) e f = (signed_decimal v, refl, value_read v f)

joiner_good : (j : Joiner) → has_bad_count j ≡ false → FitsJoiner j → IsJoiner j (joiner_words j)
joiner_good (Until c) e f = condition_good c e f
joiner_good _ e f = refl

timed_good : (t : Bool) → IsTimed t (timed_words t)
timed_good true = refl
timed_good false = refl

kind_good : (k : Kind) → IsKind k (kind_word k)
kind_good S = refl
kind_good _ = refl

all_split : (P : ℕ → Type 0) (xs ys : List ℕ) → AllByRecursion P (xs ++ ys) → AllByRecursion P xs × AllByRecursion P ys
all_split P [] ys h = (tt, h)
all_split P (x ∷ xs) ys h = let r = all_split P xs ys h.1 in ((h.0, r.0), r.1)

-- ---- the words are words

name_byte_plain : (b : ℕ) → is_name_byte b ≡ true → is_plain b ≡ true
name_byte_plain b e = grind (arith, nat_tests)

pub name_word : (name : List ℕ) → is_name name ≡ true → IsWord name
name_word name e = record {
  filled = grind (arith, nat_tests);
  plain = all_implied is_name_byte is_plain name_byte_plain name (grind (arith, nat_tests));
}

slot_is_word : (s : ℕ) → is_past s ≡ false → IsWord (slot s)
slot_is_word s e = let h = present s e in slot_word s (omega arith)

number_is_word : (n : ℕ) → is_past n ≡ false → IsWord (decimal n)
number_is_word n e = let h = present n e in decimal_word n (omega arith)

label_is_word : (names : Option Names) (found : ℕ → ℕ) (to : ℕ) → Labels names found to → IsWord (label to)
label_is_word names found to h = let s = h.small in label_word to (omega arith)

maybe_is_word : (names : Option Names) (found : ℕ → ℕ) (to : Option ℕ) → AllByRecursion (Labels names found) (option_to_list to) → IsWord (maybe_label to)
maybe_is_word names found None h = record { filled = omega arith; plain = refl }
maybe_is_word names found (Some to) h = label_is_word names found to h.0

handle_is_word : (h : Option ℕ) → handle_is_past h ≡ false → IsWord (handle h)
handle_is_word None e = record { filled = omega arith; plain = refl }
handle_is_word (Some s) e = slot_is_word s e

kind_is_word : (k : Kind) → IsWord (kind_word k)
kind_is_word S = record { filled = omega arith; plain = refl }
kind_is_word _ = record { filled = omega arith; plain = refl }

pub concrete : (w : List ℕ) → nat_lt 0 (length w) ≡ true → list_all is_plain w ≡ true → IsWord w
concrete w f e = record { filled = grind (arith, nat_tests); plain = e }

condition_are_words : (c : Pred) → has_bad_count (Until c) ≡ false → FitsCondition c → AreWords (condition_words c)
condition_are_words (Failed n) e f = let h = count_good n e in (concrete (codes "failed") refl refl, (decimal_word n (omega arith), tt))
condition_are_words (Success n) e f = let h = count_good n e in (concrete (codes "success") refl refl, (decimal_word n (omega arith), tt))
condition_are_words (AtLeast v) e f = (concrete (codes "atleast") refl refl, (value_word v f, tt))

joiner_are_words : (j : Joiner) → has_bad_count j ≡ false → FitsJoiner j → AreWords (joiner_words j)
joiner_are_words AllSucceed e f = (concrete (codes "all") refl refl, tt)
joiner_are_words AnySucceeds e f = (concrete (codes "any") refl refl, tt)
joiner_are_words AwaitOk e f = (concrete (codes "awaitok") refl refl, tt)
joiner_are_words AwaitAll e f = (concrete (codes "awaitall") refl refl, tt)
joiner_are_words (Until c) e f = (concrete (codes "until") refl refl, condition_are_words c e f)

timed_are_words : (t : Bool) → AreWords (timed_words t)
timed_are_words true = (concrete (codes "timed") refl refl, tt)
timed_are_words false = tt

words_append : (xs ys : List (List ℕ)) → AreWords xs → AreWords ys → AreWords (xs ++ ys)
words_append [] ys h g = g
words_append (x ∷ xs) ys h g = (h.0, words_append xs ys h.1 g)

-- ---- operands

-- its value is of 64 bits
abbrev FitsOperand : Operand → Type 0
FitsOperand (Value k) = IsValue k
FitsOperand (Rule joiner) = FitsJoiner joiner
FitsOperand operand = ⊤

-- the values among these operands are of 64 bits
abbrev FitAll : List Operand → Type 0
FitAll [] = ⊤
FitAll (Value k ∷ more) = IsValue k × FitAll more
FitAll (Rule joiner ∷ more) = FitsJoiner joiner × FitAll more
FitAll (operand ∷ more) = FitAll more

fit_all : (instr : Instr) → FitsInstr instr → FitAll (shape instr).operands
fit_all (i.Push k) f = (f, tt)
fit_all (i.Open s timed joiner) f = (f, tt)
fit_all _ f = tt

fit_split : (operand : Operand) (more : List Operand) → FitAll (operand ∷ more) → FitsOperand operand × FitAll more
fit_split (Value k) more f = f
fit_split (Rule joiner) more f = f
fit_split _ more f = (tt, f)

abbrev FindsOne : Program → Option Names → (ℕ → ℕ) → Operand → Type 0
FindsOne p names other (Function f) = IsFunction names (other f) (routine p f).name
FindsOne p names other operand = ⊤

find_split : (p : Program) (names : Option Names) (other : ℕ → ℕ) (operand : Operand) (more : List Operand) → Finds p names other (operand ∷ more) → FindsOne p names other operand × Finds p names other more
find_split p names other (Function f) more g = g
find_split p names other _ more g = (tt, g)

range_split : (a b : Option Bool) → unwrap_or (either_fault a b) false ≡ false → (unwrap_or a false ≡ false) × (unwrap_or b false ≡ false)
range_split None b e = (refl, e)
range_split (Some a) None e = (e, refl)
range_split (Some a) (Some b) e = either a b e

-- an operand with its label or function moved
abbrev moved_operand : (ℕ → ℕ) → (ℕ → ℕ) → Operand → Operand
moved_operand found other (Label to) = Label (found to)
moved_operand found other (MaybeLabel to) = MaybeLabel (option_map found to)
moved_operand found other (Function f) = Function (other f)
moved_operand found other operand = operand

moved_word : (found other : ℕ → ℕ) (instr : Instr) → (shape instr).word ≡ (shape (moved found other instr)).word
moved_word found other (i.Div to) = refl
moved_word found other _ = refl

moved_row : (found other : ℕ → ℕ) (instr : Instr) → map (moved_operand found other) (shape instr).operands ≡ (shape (moved found other instr)).operands
moved_row found other (i.Div to) = refl
moved_row found other _ = refl

-- the words of an operand in a listing spell it
record IsSpelled (p : Program) (names : Option Names) (found other : ℕ → ℕ) (operand : Operand) : Type 0 where
  is : IsOperand names (moved_operand found other operand) (operand_words p operand)
  words : AreWords (operand_words p operand)

operand_spelled : (p : Program) (names : Option Names) (found other : ℕ → ℕ) (operand : Operand) → unwrap_or (range_fault operand) false ≡ false → FitsOperand operand → AllByRecursion (Labels names found) (places operand) → FindsOne p names other operand → IsSpelled p names found other operand
operand_spelled p names found other (Value k) e f t g = record { is = (signed_decimal k, refl, value_read k f); words = (value_word k f, tt) }
operand_spelled p names found other (Local x) e f t g = record { is = (decimal x, refl, number_good x e); words = (number_is_word x e, tt) }
operand_spelled p names found other (Turns n) e f t g =
    let h = either (n == 0) (nat_lt 10000 n) e in
    let small : n ≤ 10000 = grind (arith, nat_tests, h.1) in
    record { is = (decimal n, refl, number_read (2 ^ 16 - 1) n (omega arith) (omega arith)); words = (decimal_word n (omega arith), tt) }
operand_spelled p names found other (Label to) e f t g = record { is = (label to, refl, target_good names found to t.0); words = (label_is_word names found to t.0, tt) }
operand_spelled p names found other (MaybeLabel to) e f t g = record { is = (maybe_label to, refl, maybe_good names found to t); words = (maybe_is_word names found to t, tt) }
operand_spelled p names found other (InSlot role s) e f t g = record { is = (slot s, refl, slot_good s e); words = (slot_is_word s e, tt) }
operand_spelled p names found other (Handle h) e f t g = record { is = (handle h, refl, handle_good h e); words = (handle_is_word h e, tt) }
operand_spelled p names found other (Function x) e f t g = record { is = ((routine p x).name, refl, g); words = (name_word (routine p x).name g.0, tt) }
operand_spelled p names found other (State k) e f t g = record { is = (kind_word k, refl, kind_good k); words = (kind_is_word k, tt) }
operand_spelled p names found other (Key k) e f t g = record { is = (decimal k, refl, number_good k e); words = (number_is_word k e, tt) }
operand_spelled p names found other (Rule j) e f t g = record { is = joiner_good j e f; words = joiner_are_words j e f }
operand_spelled p names found other (Timed timed) e f t g = record { is = timed_good timed; words = timed_are_words timed }

all_spelled : (p : Program) (names : Option Names) (found other : ℕ → ℕ) (row : List Operand) → unwrap_or (any_fault row) false ≡ false → FitAll row → AllByRecursion (Labels names found) (flat_map places row) → Finds p names other row → AllByRecursion (IsSpelled p names found other) row
all_spelled p names found other [] e f t g = tt
all_spelled p names found other (operand ∷ more) e f t g =
    let r = range_split (range_fault operand) (any_fault more) e in
    let v = fit_split operand more f in
    let l = all_split (Labels names found) (places operand) (flat_map places more) t in
    let o = find_split p names other operand more g in
    (operand_spelled p names found other operand r.0 v.0 l.0 o.0, all_spelled p names found other more r.1 v.1 l.1 o.1)

spelled_row : (p : Program) (names : Option Names) (found other : ℕ → ℕ) (row : List Operand) → AllByRecursion (IsSpelled p names found other) row → AreOperands names (map (moved_operand found other) row) (words_of p row)
spelled_row p names found other [] h = refl
spelled_row p names found other (operand ∷ []) h = (operand_words p operand, [], sym (append-nil (operand_words p operand)), h.0.is, refl)
spelled_row p names found other (operand ∷ next ∷ more) h = (operand_words p operand, words_of p (next ∷ more), refl, h.0.is, spelled_row p names found other (next ∷ more) h.1)

row_are_words : (p : Program) (names : Option Names) (found other : ℕ → ℕ) (row : List Operand) → AllByRecursion (IsSpelled p names found other) row → AreWords (words_of p row)
row_are_words p names found other [] h = tt
row_are_words p names found other (operand ∷ []) h = h.0.words
row_are_words p names found other (operand ∷ next ∷ more) h = words_append (operand_words p operand) (words_of p (next ∷ more)) h.0.words (row_are_words p names found other (next ∷ more) h.1)

-- ---- instructions

-- the words of an instruction in a listing spell it
pub spelled_as : (p : Program) (names : Option Names) (found other : ℕ → ℕ) (instr : Instr) → has_bad_range instr ≡ false → FitsInstr instr → AllByRecursion (Labels names found) (targets instr) → Forks p names other instr → Spells names (moved found other instr) (keyword instr ∷ operands p instr)
spelled_as p names found other instr e f t g =
    let row = (shape instr).operands in
    let h = spelled_row p names found other row (all_spelled p names found other row e (fit_all instr f) t g) in
    (operands p instr, ap (λ w. w ∷ operands p instr) (moved_word found other instr), subst (λ os. AreOperands names os (operands p instr)) (moved_row found other instr) h)

pub operands_are_words : (p : Program) (names : Option Names) (found other : ℕ → ℕ) (instr : Instr) → has_bad_range instr ≡ false → FitsInstr instr → AllByRecursion (Labels names found) (targets instr) → Forks p names other instr → AreWords (operands p instr)
operands_are_words p names found other instr e f t g = let row = (shape instr).operands in row_are_words p names found other row (all_spelled p names found other row e (fit_all instr f) t g)

-- the first word of an instruction is a word
pub keyword_is_word : (instr : Instr) → IsWord (keyword instr)
keyword_is_word (i.Push k) = concrete (codes "push") refl refl
keyword_is_word instr = concrete (keyword instr) refl refl

same_option : (o : Option ℕ) → option_map (λ (x : ℕ). x) o ≡ o
same_option None = refl
same_option (Some x) = refl

-- if all names are found in their own places, nothing is moved
pub moved_nowhere : (instr : Instr) → moved (λ to. to) (λ f. f) instr ≡ instr
moved_nowhere (i.Join s f t r) = rw (same_option f, same_option t) refl
moved_nowhere _ = refl
