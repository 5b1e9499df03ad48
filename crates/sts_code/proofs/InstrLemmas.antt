-- Each instruction of a program passed the program checks.
use Rattle.std.proofs.Common.{◌≡◌, ℕ, zero, suc, ◌+◌, ◌<◌, List, [], ◌∷◌, length, take, false, None, sym, ap, ◌∙◌, arith, length-take-le}
use Rattle.sts_code.specs.declared.checking.CodeCause.TheVariants.{BadTarget, LaterFunction, BadRange}
use Rattle.sts_code.specs.declared.instr.Instr.{Instr}
use Rattle.sts_code.specs.declared.instr.Instr.TheVariants.{Ret}
use Rattle.sts_code.specs.Checks as def
use Rattle.sts_code.specs.Program.{Program, routine, instr_at}
use Rattle.sts_code.proofs.CheckedLemmas.{neither, no_cause, no_test, routine_is_fine, routines_are_fine}

-- the checks of an instruction of function f, whose code has n instructions
pub record IsSound (f n : ℕ) (i : Instr) : Type 0 where
  pub target : def.has_bad_target n i ≡ false
  pub earlier : def.forks_later f i ≡ false
  pub range : def.has_bad_range i ≡ false

no_fault_at : (at n pc : ℕ) (code : List Instr) (k : ℕ) → def.code_fault at n pc code ≡ None → k < length code → def.instr_cause at n (instr_at code k) ≡ None
no_fault_at at n pc [] k e low = absurd (omega arith)
no_fault_at at n pc (i ∷ rest) zero e low = no_cause at pc (def.instr_cause at n i) (neither (def.fault_at at pc (def.instr_cause at n i)) (def.code_fault at n (pc + 1) rest) e).0
no_fault_at at n pc (i ∷ rest) (suc k) e low = no_fault_at at n (pc + 1) rest k (neither (def.fault_at at pc (def.instr_cause at n i)) (def.code_fault at n (pc + 1) rest) e).1 (omega arith)

-- an instruction other than `ret` is in the code, since past the end a `ret` is read
in_code : (code : List Instr) (pc : ℕ) (i : Instr) → instr_at code pc ≡ i → (Ret ≡ i → ⊥) → pc < length code
in_code [] pc i e other = absurd (other e)
in_code (x ∷ xs) zero i e other = omega arith
in_code (x ∷ xs) (suc pc) i e other = let r = in_code xs pc i e other in omega arith

pub sound_within : (p : Program) (f pc : ℕ) → def.program_fault p.routines ≡ None → f < length p.routines → pc < length (routine p f).code → IsSound f (length (routine p f).code) (instr_at (routine p f).code pc)
sound_within p f pc e low within =
    let n = length (routine p f).code in
    let i = instr_at (routine p f).code pc in
    let here : length (take f p.routines) ≡ f = length-take-le f p.routines (omega arith) in
    let fine : def.routine_fault (take f p.routines) (routine p f) ≡ None = routine_is_fine [] p.routines f (routines_are_fine p.routines e).1 low in
    let code = (neither (def.fault_at (length (take f p.routines)) 0 (def.routine_cause (take f p.routines) (routine p f))) _ fine).1 in
    let cause : def.instr_cause (length (take f p.routines)) n i ≡ None = no_fault_at (length (take f p.routines)) n 0 (routine p f).code pc code within in
    let t = no_test (def.has_bad_target n i) BadTarget _ cause in
    let l = no_test (def.forks_later (length (take f p.routines)) i) LaterFunction _ t.1 in
    let r = no_test (def.has_bad_range i) BadRange None l.1 in
    record { target = t.0; earlier = ap (λ k. def.forks_later k i) (sym here) ∙ l.0; range = r.0 }

pub sound_at : (p : Program) (f pc : ℕ) (i : Instr) → def.program_fault p.routines ≡ None → f < length p.routines → instr_at (routine p f).code pc ≡ i → (Ret ≡ i → ⊥) → IsSound f (length (routine p f).code) i
sound_at p f pc i e low is other = rw is at (sound_within p f pc e low (in_code (routine p f).code pc i is other))
