-- The facts of functions that passed the program checks.
use Rattle.std.proofs.Common.{◌≡◌, ℕ, zero, suc, ◌<◌, ◌≤◌, List, [], ◌∷◌, ◌++◌, length, take, Bool, true, false, Option, Some, None, ◌||◌, ◌==◌, not, nat_lt}
use Rattle.std.proofs.Common.{cond, refl, arith, append_assoc, slice_index_or}
use Rattle.std.proofs.lemmas.Grind.{common_steps}
use Rattle.std.specs.Option.{option_or}
use Rattle.std.proofs.lemmas.Bool.{or_parts}
use Rattle.sts_code.specs.declared.checking.CodeCause.{CodeCause}
use Rattle.sts_code.specs.Checks as def
use Rattle.sts_code.specs.declared.checking.CodeCause.TheVariants.{TooLong, BadRange}
use Rattle.sts_code.specs.Name.{is_name}
use Rattle.sts_code.specs.declared.limits.TheConstants.{MAX_FUNCTIONS, MAX_INSTRUCTIONS, MAX_ARGS}
use Rattle.sts_code.specs.Program.{Program, Routine, no_routine, routine}
use borrow.Author.Tests.{ltb-false}

-- neither of two faults is there
pub neither : {A : Type 0} (a b : Option A) → option_or a b ≡ None → (a ≡ None) × (b ≡ None)
neither None b e = (refl, e)
neither (Some x) b e = cc

-- if no error is reported for a cause, there is no cause
pub no_cause : (at pc : ℕ) (cause : Option CodeCause) → def.fault_at at pc cause ≡ None → cause ≡ None
no_cause at pc None e = refl
no_cause at pc (Some c) e = cc

-- each function, after the ones before it, is without fault
pub routine_is_fine : (earlier rs : List Routine) (i : ℕ) → def.routines_fault earlier rs ≡ None → i < length rs → def.routine_fault (earlier ++ take i rs) (slice_index_or rs i no_routine) ≡ None
routine_is_fine earlier [] i e h = absurd (omega arith)
routine_is_fine earlier (r ∷ rest) zero e h = grind (arith, common_steps, (neither (def.routine_fault earlier r) _ e).0)
routine_is_fine earlier (r ∷ rest) (suc i) e h =
    let later : def.routine_fault ((earlier ++ r ∷ []) ++ take i rest) (slice_index_or rest i no_routine) ≡ None = routine_is_fine (earlier ++ r ∷ []) rest i (neither (def.routine_fault earlier r) _ e).1 (omega arith) in
    rw append_assoc at later

-- neither of two tests holds
neither_holds : (a b : Bool) (x : CodeCause) (rest : Option CodeCause) → cond (a || b) (Some x) rest ≡ None → (a ≡ false) × (b ≡ false)
neither_holds true b x rest e = cc
neither_holds false true x rest e = cc
neither_holds false false x rest e = (refl, refl)

-- a value if a test holds, or another one, and none is there
pub no_test : {A : Type 0} (a : Bool) (x : A) (rest : Option A) → cond a (Some x) rest ≡ None → (a ≡ false) × (rest ≡ None)
no_test true x rest e = cc
no_test false x rest e = (refl, e)

-- a function as a whole is within the limits
pub routine_is_small : (earlier : List Routine) (r : Routine) → def.routine_fault earlier r ≡ None → (length r.code ≤ MAX_INSTRUCTIONS) × (r.args ≤ MAX_ARGS)
routine_is_small earlier r e =
    let none : def.routine_cause earlier r ≡ None = no_cause (length earlier) 0 (def.routine_cause earlier r) (neither _ (def.code_fault (length earlier) (length r.code) 0 r.code) e).0 in
    let short = no_test (nat_lt MAX_INSTRUCTIONS (length r.code)) TooLong _ none in
    let named = neither_holds (not (is_name r.name) || nat_lt MAX_ARGS r.args) (length r.code == 0) BadRange _ short.1 in
    let few = (or_parts (not (is_name r.name)) (nat_lt MAX_ARGS r.args) named.0).1 in
    (grind (arith, ltb-false, short.0), grind (arith, ltb-false, few))

-- there are at most 64 functions, and each is without fault
pub routines_are_fine : (rs : List Routine) → def.program_fault rs ≡ None → (length rs ≤ MAX_FUNCTIONS) × (def.routines_fault [] rs ≡ None)
routines_are_fine rs e =
    let few = no_test (nat_lt MAX_FUNCTIONS (length rs)) _ _ e in
    (grind (arith, ltb-false, few.0), (neither (def.routines_fault [] rs) _ few.1).0)

small_at : (earlier rs : List Routine) (i : ℕ) → def.routines_fault earlier rs ≡ None → (length (slice_index_or rs i no_routine).code ≤ MAX_INSTRUCTIONS) × ((slice_index_or rs i no_routine).args ≤ MAX_ARGS)
small_at earlier [] i e = (omega arith, omega arith)
small_at earlier (r ∷ rest) zero e = routine_is_small earlier r (neither (def.routine_fault earlier r) _ e).0
small_at earlier (r ∷ rest) (suc i) e = small_at (earlier ++ r ∷ []) rest i (neither (def.routine_fault earlier r) _ e).1

-- each function of a program is within the limits
pub code_is_short : (p : Program) (i : ℕ) → def.program_fault p.routines ≡ None → (length (routine p i).code ≤ MAX_INSTRUCTIONS) × ((routine p i).args ≤ MAX_ARGS)
code_is_short p i e = small_at [] p.routines i (routines_are_fine p.routines e).1
