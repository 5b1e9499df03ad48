-- The facts of the instructions and of `main` that follow from the program checks.
use Rattle.std.proofs.Common.{◌≡◌, ℕ, zero, suc, ◌-◌, ◌<◌, List, [], ◌∷◌, length, Bool, true, false, Option, Some, None, not, cond, refl, arith, slice_get}
use Rattle.std.proofs.Common.{slice_index_or}
use Rattle.std.specs.Prelude.{nat_lt}
use Rattle.std.specs.List.{list_any}
use Rattle.std.specs.Option.{option_or}
use Rattle.sts_code.specs.declared.checking.CodeError.{CodeError}
use Rattle.sts_code.specs.declared.instr.Instr.{Instr}
use Rattle.sts_code.specs.declared.instr.Instr.TheVariants.{Ret}
use Rattle.sts_code.proofs.InstrLemmas.{sound_within}
use Rattle.sts_code.specs.Checks as def
use Rattle.sts_code.specs.Program.{Program, Routine, no_routine, routine}
use Rattle.sts_model.specs.declared.record.Frame.{Frame}
use Rattle.sts_model.specs.World.{instr_at}
use Rattle.sts_rules.specs.Causes.{needs}
use Rattle.laws_runs.proofs.ListLemmas.{none_found}
use Rattle.std.proofs.lemmas.Bool.{and_parts, not-true}

-- an instruction that is read is in the code
stands_in : (code : List Instr) (n : ℕ) (i : Instr) → slice_get code n ≡ Some i → (slice_index_or code n Ret ≡ i) × (n < length code)
stands_in [] n i e = cc
stands_in (x ∷ xs) zero i e = (cc, omega arith)
stands_in (x ∷ xs) (suc n) i e = let h = stands_in xs n i e in (h.0, let k = h.1 in omega (arith, k))

-- it forks only earlier functions, and all its numbers are in their ranges
pub instr_checked : (p : Program) (f : Frame) (i : Instr) → def.program_fault p.routines ≡ None → f.function < length p.routines → instr_at p f ≡ Some i → (def.forks_later f.function i ≡ false) × (def.has_bad_range i ≡ false)
instr_checked p f i checked inside at =
    let here = stands_in (routine p f.function).code f.pc i at in
    let sound = rw here.0 at (sound_within p f.function f.pc checked inside here.1) in
    (sound.earlier, sound.range)

-- ---- `main`

last_is : (rs : List Routine) (n : ℕ) → def.is_main_at (slice_get rs n) ≡ true → (def.is_main (slice_index_or rs n no_routine) ≡ true) × (n < length rs)
last_is [] n e = cc
last_is (r ∷ rs) zero e = (e, omega arith)
last_is (r ∷ rs) (suc n) e = let h = last_is rs n e in (h.0, let k = h.1 in omega (arith, k))

no_second : (a b : Bool) (x y : CodeError) (rest : Option CodeError) → cond a (Some x) (option_or rest (cond b None (Some y))) ≡ None → b ≡ true
no_second true b x y rest e = cc
no_second false true x y rest e = refl
no_second false false x y None e = cc
no_second false false x y (Some z) e = cc

-- there is a last function, and it needs nothing
pub main_needs_nothing : (p : Program) → def.program_fault p.routines ≡ None → (length p.routines - 1 < length p.routines) × ((k : ℕ) → needs p (length p.routines - 1) k ≡ false)
main_needs_nothing p checked =
    let main = last_is p.routines (length p.routines - 1) (no_second (nat_lt 64 (length p.routines)) (def.ends_with_main p.routines) _ _ (def.routines_fault [] p.routines) checked) in
    let none = not-true _ (and_parts _ (not (list_any (λ needed. needed) (routine p (length p.routines - 1)).needs)) main.0).1 in
    (main.1, λ k. none_found (λ (needed : Bool). needed) (routine p (length p.routines - 1)).needs k false refl none)
