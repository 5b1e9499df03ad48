-- Each function of a program is within the limits, in whatever way it was read.
use Rattle.std.proofs.Common.{◌≡◌, ℕ, zero, suc, ◌<◌, ◌≤◌, List, [], length, take, Bool, true, false, Option, Some, None, ◌==◌, cond, nat_lt, ◌∙◌, refl, arith}
use Rattle.std.proofs.Common.{slice_index_or}
use Rattle.std.proofs.lemmas.List.{get_or_default}
use Rattle.std.proofs.lemmas.Bool.{or_parts}
use Rattle.sts_code.specs.declared.checking.CodeCause.{CodeCause}
use Rattle.sts_code.specs.Checks.{program_fault, routine_cause}
use Rattle.sts_code.specs.declared.limits.TheConstants.{MAX_INSTRUCTIONS, MAX_ARGS}
use Rattle.sts_code.specs.Program.{Program, Routine, routine, no_routine}
use Rattle.sts_code.proofs.CheckedLemmas.{neither, no_cause, code_is_short, routine_is_fine, routines_are_fine}
use borrow.Author.Tests.{ltb-true}

pub function_is_short : (p : Program) (rs : List Routine) (i : ℕ) (d r : Routine) → rs ≡ p.routines → program_fault p.routines ≡ None → true ≡ nat_lt i (length rs) → r ≡ slice_index_or rs i d → (length r.code ≤ MAX_INSTRUCTIONS) × (r.args ≤ MAX_ARGS)
function_is_short p rs i d r same fine h at =
    let e : r ≡ routine p i = at ∙ get_or_default rs i d no_routine (grind (arith, ltb-true)) ∙ rw same refl in
    rw e (code_is_short p i fine)

-- ---- no function is empty

second_test : (a b : Bool) (x y : CodeCause) (rest : Option CodeCause) → cond a (Some x) (cond b (Some y) rest) ≡ None → b ≡ false
second_test true b x y rest e = cc
second_test false true x y rest e = cc
second_test false false x y rest e = refl

pub has_code : (p : Program) (i : ℕ) → program_fault p.routines ≡ None → i < length p.routines → 0 < length (routine p i).code
has_code p i e h =
    let fine = routine_is_fine [] p.routines i (routines_are_fine p.routines e).1 h in
    let none = no_cause _ 0 (routine_cause (take i p.routines) (routine p i)) (neither _ _ fine).0 in
    let named = second_test _ _ _ _ _ none in
    let some = (or_parts _ (length (routine p i).code == 0) named).1 in
    by (length (routine p i).code) some
  where
    by : (n : ℕ) → (n == 0) ≡ false → 0 < n
    by zero f = cc
    by (suc n) f = omega arith

pub function_has_code : (p : Program) (rs : List Routine) (i : ℕ) (d r : Routine) → rs ≡ p.routines → program_fault p.routines ≡ None → i < length p.routines → r ≡ slice_index_or rs i d → 0 < length r.code
function_has_code p rs i d r same fine h at =
    let e : r ≡ routine p i = at ∙ get_or_default rs i d no_routine (rw same h) ∙ rw same refl in
    rw e (has_code p i fine h)
