use Rattle.std.proofs.Common.{◌≡◌, ℕ, suc, zero, ◌+◌, ◌<◌, ◌≤◌, Bool, true, false, cond, List, [], ◌∷◌, ◌++◌, length, get_or, refl, ◌∙◌, ap, ◌⊎◌, inl, inr}
use Rattle.std.proofs.Common.{arith, append_assoc, append-nil, length-append}
use Rattle.std.specs.Prelude.{◌==◌, ◌||◌, not, nat_le, nat_lt, Some, None, ⊤}
use Rattle.std.specs.List.{AllByRecursion, list_any}
use Rattle.std.specs.Option.{option_or}
use Rattle.std.specs.Str.{bytes_eq}
use Rattle.std.proofs.lemmas.Slice.Eq.{bytes_eq-Decides}
use Rattle.std.proofs.lemmas.Bool.Decides.{nat_tests}
use Rattle.std.proofs.lemmas.Bool.{not-false}
use Rattle.sts_code.proofs.CheckedLemmas.{neither, no_cause, no_test}
use Rattle.sts_code.specs.Name.{is_name}
use Rattle.sts_code.specs.Program.{Routine, no_routine}
use Rattle.sts_code.specs.Checks.{has_bad_target, forks_later, has_bad_range, instr_cause, fault_at, code_fault, is_named, routine_cause, routine_fault}
use Rattle.sts_code.specs.Checks.{routines_fault, ends_with_main, program_fault}
use Rattle.sts_code.specs.declared.checking.CodeCause.TheVariants.{TooManyFunctions, TooLong, BadTarget, LaterFunction, NoMain, BadRange, DuplicateName}
use Rattle.sts_code.specs.declared.instr.Instr.{Instr}
use Rattle.sts_code.specs.declared.instr.Instr.TheVariants as i
use Rattle.sts_asm.specs.Marks.{Mark, marked}
use Rattle.sts_asm.proofs.MarkLemmas.{marked_cons, marked_append}
use Rattle.sts_code.specs.Facts.{targets}
use Rattle.sts_list.proofs.SpellingLemmas.{either}
use Rattle.sts_list.proofs.FunctionLemmas.{names_from}

-- ---- what it says that no check fails

-- an instruction that passed, in the function at this index, which has n instructions
pub record IsChecked (at n : ℕ) (instr : Instr) : Type 0 where
  pub target : has_bad_target n instr ≡ false
  pub fork : forks_later at instr ≡ false
  pub range : has_bad_range instr ≡ false

instr_checked : (at n : ℕ) (instr : Instr) → instr_cause at n instr ≡ None → IsChecked at n instr
instr_checked at n instr e =
    let a = no_test (has_bad_target n instr) BadTarget (cond (forks_later at instr) (Some LaterFunction) (cond (has_bad_range instr) (Some BadRange) None)) e in
    let b = no_test (forks_later at instr) LaterFunction (cond (has_bad_range instr) (Some BadRange) None) a.1 in
    let c = no_test (has_bad_range instr) BadRange None b.1 in
    record { target = a.0; fork = b.0; range = c.0 }

code_checked : (at n pc : ℕ) (code : List Instr) → code_fault at n pc code ≡ None → AllByRecursion (IsChecked at n) code
code_checked at n pc [] e = tt
code_checked at n pc (instr ∷ rest) e =
    let h = neither (fault_at at pc (instr_cause at n instr)) (code_fault at n (pc + 1) rest) e in
    (instr_checked at n instr (no_cause at pc (instr_cause at n instr) h.0), code_checked at n (pc + 1) rest h.1)

-- a function that passed, after these
pub record IsCheckedRoutine (earlier : List Routine) (r : Routine) : Type 0 where
  pub name : is_name r.name ≡ true
  pub args : r.args ≤ 8
  pub short : length r.code ≤ 4096
  pub new : list_any (is_named r.name) earlier ≡ false
  pub code : AllByRecursion (IsChecked (length earlier) (length r.code)) r.code

routine_checked : (earlier : List Routine) (r : Routine) → routine_fault earlier r ≡ None → IsCheckedRoutine earlier r
routine_checked earlier r e =
    let h = neither (fault_at (length earlier) 0 (routine_cause earlier r)) (code_fault (length earlier) (length r.code) 0 r.code) e in
    let bad = not (is_name r.name) || nat_lt 8 r.args || length r.code == 0 in
    let taken = cond (list_any (is_named r.name) earlier) (Some DuplicateName) None in
    let a = no_test (nat_lt 4096 (length r.code)) TooLong (cond bad (Some BadRange) taken) (no_cause (length earlier) 0 (routine_cause earlier r) h.0) in
    let b = no_test bad BadRange taken a.1 in
    let c = no_test (list_any (is_named r.name) earlier) DuplicateName None b.1 in
    let d = either (not (is_name r.name) || nat_lt 8 r.args) (length r.code == 0) b.0 in
    let f = either (not (is_name r.name)) (nat_lt 8 r.args) d.0 in
    record { name = not-false (is_name r.name) f.0; args = grind (arith, nat_tests, f.1); short = grind (arith, nat_tests, a.0); new = c.0; code = code_checked (length earlier) (length r.code) 0 r.code h.1 }

abbrev pub AreChecked : List Routine → List Routine → Type 0
AreChecked earlier [] = ⊤
AreChecked earlier (r ∷ rest) = IsCheckedRoutine earlier r × AreChecked (earlier ++ r ∷ []) rest

routines_checked : (earlier rest : List Routine) → routines_fault earlier rest ≡ None → AreChecked earlier rest
routines_checked earlier [] e = tt
routines_checked earlier (r ∷ rest) e =
    let h = neither (routine_fault earlier r) (routines_fault (earlier ++ r ∷ []) rest) e in
    (routine_checked earlier r h.0, routines_checked (earlier ++ r ∷ []) rest h.1)

pub program_checked : (rs : List Routine) → program_fault rs ≡ None → AreChecked [] rs
program_checked rs e =
    let a = no_test (nat_lt 64 (length rs)) (record { cause = TooManyFunctions; function = 0; pc = 0 }) (option_or (routines_fault [] rs) (cond (ends_with_main rs) None (Some (record { cause = NoMain; function = 0; pc = 0 })))) e in
    let b = neither (routines_fault [] rs) (cond (ends_with_main rs) None (Some (record { cause = NoMain; function = 0; pc = 0 }))) a.1 in
    routines_checked [] rs b.0

-- ---- targets and forks

pub later : (n to : ℕ) → nat_le n to ≡ false → to < n
later n to e = grind (arith, nat_tests)

none_past : (n : ℕ) (places : List ℕ) → list_any (nat_le n) places ≡ false → AllByRecursion (λ to. to < n) places
none_past n [] e = tt
none_past n (to ∷ rest) e = let a = either (nat_le n to) (list_any (nat_le n) rest) e in (later n to a.0, none_past n rest a.1)

pub targets_within : (n : ℕ) (instr : Instr) → has_bad_target n instr ≡ false → AllByRecursion (λ to. to < n) (targets instr)
targets_within n instr e = none_past n (targets instr) e

-- ---- the names of the functions

-- each of these functions is found by its name
abbrev pub AreFound : List Routine → Type 0
AreFound rs = (k : ℕ) → k < length rs → (is_name (get_or rs k no_routine).name ≡ true) × (marked (names_from 0 rs) (get_or rs k no_routine).name ≡ Some k)

names_more : (n : ℕ) (rs : List Routine) (r : Routine) → names_from n (rs ++ r ∷ []) ≡ names_from n rs ++ record { name = r.name; at = n + length rs } ∷ []
names_more n [] r = let e : n ≡ n + 0 = omega arith in ap (λ (k : ℕ). record { name = r.name; at = k } ∷ []) e
names_more n (s ∷ rs) r =
    let e : n + 1 + length rs ≡ n + suc (length rs) = omega arith in
    ap (λ (ms : List Mark). record { name = s.name; at = n } ∷ ms) (names_more (n + 1) rs r ∙ ap (λ (k : ℕ). names_from (n + 1) rs ++ record { name = r.name; at = k } ∷ []) e)

names_last : (rs : List Routine) (r : Routine) → names_from 0 (rs ++ r ∷ []) ≡ names_from 0 rs ++ record { name = r.name; at = length rs } ∷ []
names_last rs r = let e : 0 + length rs ≡ length rs = omega arith in names_more 0 rs r ∙ ap (λ (k : ℕ). names_from 0 rs ++ record { name = r.name; at = k } ∷ []) e

not_marked : (n : ℕ) (rs : List Routine) (name : List ℕ) → list_any (is_named name) rs ≡ false → marked (names_from n rs) name ≡ None
not_marked n [] name e = refl
not_marked n (s ∷ rs) name e =
    let h = either (bytes_eq s.name name) (list_any (is_named name) rs) e in
    marked_cons (record { name = s.name; at = n }) (names_from (n + 1) rs) name ∙ rw h.0 (not_marked (n + 1) rs name h.1)

pub same_bytes : (xs : List ℕ) → bytes_eq xs xs ≡ true
same_bytes xs = (bytes_eq-Decides xs xs).1 refl

get_last : (rs : List Routine) (r : Routine) → get_or (rs ++ r ∷ []) (length rs) no_routine ≡ r
get_last [] r = refl
get_last (s ∷ rs) r = get_last rs r

get_front : (rs : List Routine) (r : Routine) (k : ℕ) → k < length rs → get_or (rs ++ r ∷ []) k no_routine ≡ get_or rs k no_routine
get_front [] r k h = absurd (omega arith)
get_front (s ∷ rs) r zero h = refl
get_front (s ∷ rs) r (suc k) h = get_front rs r k (omega arith)

order_at : (b : Bool) (k n : ℕ) → nat_lt k n ≡ b → k < n + 1 → (k < n) ⊎ (k ≡ n)
order_at true k n e h = inl (grind (arith, nat_tests))
order_at false k n e h = inr (grind (arith, nat_tests))

found_more : (rs : List Routine) (r : Routine) → AreFound rs → is_name r.name ≡ true → list_any (is_named r.name) rs ≡ false → AreFound (rs ++ r ∷ [])
found_more rs r h named new = λ k small.
    let size : length (rs ++ r ∷ []) ≡ length rs + 1 = simp length-append (omega arith) in
    let last : Mark = record { name = r.name; at = length rs } in
    elim (order_at (nat_lt k (length rs)) k (length rs) refl (omega (arith, size, small))) [
      | inl below ↦
          let g = h k below in
          let q = get_or rs k no_routine in
          rw (get_front rs r k below) (g.0, ap (λ (ms : List Mark). marked ms q.name) (names_last rs r) ∙ marked_append (names_from 0 rs) last q.name ∙ rw g.1 refl)
      | inr same ↦
          rw (same, get_last rs r) (named, ap (λ (ms : List Mark). marked ms r.name) (names_last rs r) ∙ marked_append (names_from 0 rs) last r.name ∙ rw (not_marked 0 rs r.name new, same_bytes r.name) refl)
    ]

all_found : (earlier rest : List Routine) → AreFound earlier → AreChecked earlier rest → AreFound (earlier ++ rest)
all_found earlier [] h c = rw (append-nil earlier) h
all_found earlier (r ∷ rest) h c = rw (← append_assoc earlier (r ∷ []) rest) (all_found (earlier ++ r ∷ []) rest (found_more earlier r h c.0.name c.0.new) c.1)

pub functions_found : (rs : List Routine) → AreChecked [] rs → AreFound rs
functions_found rs c = all_found [] rs (λ k h. absurd (omega arith)) c
