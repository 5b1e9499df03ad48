-- Outputs of modes and explanations that went on, or no further.
use Rattle.std.proofs.Common.{◌≡◌, ◌⊎◌, ℕ, List, inl, inr, Result, Ok, Err, arith, ap, refl, sym, subst}
use Rattle.std.specs.Prelude.{IfErr, IfOk, MatchResult, Option}
use Rattle.sts_code.specs.Program.{Program}
use Rattle.sts_rules.specs.Refusal.{IsAccepted, IsRefusal}
use Rattle.sts_output.specs.Output.{Output, Writes, failure_output, memory_output}
use Rattle.sts_output.specs.Stops.{Gives, IsReported, IsShown, Prints, Says, program_in}
use Rattle.sts_output.specs.declared.refusal.Refusal.{Refusal}
use Rattle.sts_output.specs.declared.stopped.Stopped.{Stopped}
use Rattle.sts_output.specs.declared.stopped.Stopped.TheVariants as stopped
use Rattle.sts_output.specs.declared.taking.TakeError.{TakeError}
use Rattle.sts_output.specs.declared.taking.TakeError.TheVariants.{Memory, Read}

-- the verifier judged the program that was given, and reported the refusal
pub judged_right : (r : Result Program Refusal) (p : Program) → MatchResult r (λ v. (v ≡ p) × IsAccepted p) (λ r. (r.program ≡ p) × IsRefusal p r.function r.pc r.cause) → (program_in r ≡ p) × IfErr r IsReported
judged_right (Ok v) p h = (h.0, tt)
judged_right (Err r) p h = (h.0, subst (λ (q : Program). IsRefusal q r.function r.pc r.cause) (sym h.0) h.1)

-- what holds of the output that says why may be weakened
pub says_less : (e : Stopped) (P Q : Output → Type 0) → ((o : Output) → P o → Q o) → Says P e → Says Q e
says_less (stopped.Shown o) P Q k h = k o h
says_less stopped.Memory P Q k h = tt

-- what holds in any case holds also of the output that says why
pub says_anyway : (e : Stopped) (P : Type 0) → P → Says (λ _. P) e
says_anyway (stopped.Shown o) P h = h
says_anyway stopped.Memory P h = tt

-- an output that is shown is what was made, or memory ran out
shown_or_memory : (r : Result Output Stopped) (o : Output) (P : Output → Type 0) → Prints r P → IsShown r o → P o ⊎ (o ≡ memory_output)
shown_or_memory (Ok x) o P h is = inl (subst P (sym is) h)
shown_or_memory (Err (stopped.Shown x)) o P h is = inl (subst P (sym is) h)
shown_or_memory (Err stopped.Memory) o P h is = inr is

-- and so if it is written
pub written_or_memory : {E : Type 0} (r : Result Output Stopped) (status : Result ℕ E) (P : Output → Type 0) (Done : ℕ → Output → Type 0) → Prints r P
    → IfOk status (λ s. (o : Output) × IsShown r o × Done s o) → IfOk status (λ s. (o : Output) × (P o ⊎ (o ≡ memory_output)) × Done s o)
written_or_memory r (Ok s) P Done h is = (is.0, shown_or_memory r is.0 P h is.1, is.2)
written_or_memory r (Err e) P Done h is = tt

-- a status 3 is not that of running out of memory
pub kept_if_fault : {E : Type 0} (K : Type 0) (r : Result Output Stopped) (status : Result ℕ E) (old new : Option (List ℕ)) → Gives r (λ _. K) (λ _. K)
    → IfOk status (λ s. (o : Output) × IsShown r o × Writes old new s o) → IfOk status (λ s. s ≡ 3 → K)
kept_if_fault K (Ok x) (Ok s) old new h is = λ three. h
kept_if_fault K (Err (stopped.Shown x)) (Ok s) old new h is = λ three. h
kept_if_fault K (Err stopped.Memory) (Ok s) old new h is = λ three. absurd (omega (arith, three, is.2.0, ap (λ (o : Output). o.status) is.1))
kept_if_fault K r (Err e) old new h is = tt

-- memory and files fail with one status
pub failure_status : (e : TakeError) → (failure_output e).status ≡ 6
failure_status Memory = refl
failure_status Read = refl
