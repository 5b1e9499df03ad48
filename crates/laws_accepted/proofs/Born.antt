-- Each task but the root and each scope was born by a step.
use Rattle.std.proofs.Common.{ℕ, ◌+◌, ◌≤◌, [], ◌∷◌, ◌++◌, Bool, Option, refl, length, arith, length-set, length-append}
use Rattle.sts_code.specs.Program.{Program, routine}
use Rattle.sts_code.specs.declared.instr.Instr.{Instr}
use Rattle.sts_code.specs.declared.instr.Instr.TheVariants.{Open, Fork, Ret, Fail}
use Rattle.sts_model.specs.declared.event.End.TheVariants.{Success, Failed}
use Rattle.sts_model.specs.declared.record.Task.{Task}
use Rattle.sts_model.specs.World.{World, task_at}
use Rattle.sts_model.specs.Local.{operand}
use Rattle.sts_model.specs.Misuse.{slot}
use Rattle.sts_model.specs.Effect.{effect, named, open_scope, fork_task, subtask_of, forked}
use Rattle.laws_runs.proofs.BirthLemmas.{more_tasks, new_scope, opener}
use Rattle.laws_runs.proofs.EffectLemmas.{still-effect, kept-end, still-interrupt, still-expire}
use Rattle.laws_runs.proofs.KeptLemmas.{Kept}
use Rattle.laws_runs.proofs.EventLemmas.{Also}
use Rattle.laws_runs.specs.Runs.{Does}
use Rattle.laws_accepted.proofs.TimelyLemmas.{Timely}
use Rattle.laws_accepted.specs.Costs.{BirthsAreSteps}
use Rattle.laws_accepted.proofs.CostRuns.{Keeps, counted-after}

-- at most n tasks and scopes were born, without the root
abbrev Born : World → ℕ → Type 0
Born w n = length w.tasks + length w.scopes ≤ n + 1

born-kept : (w v : World) (n : ℕ) → Kept w v → Born w n → Born v n
born-kept w v n k h = let a = k.tasks in let b = k.scopes in omega (arith, a, b, h)

born-open : (w : World) (t x n : ℕ) (joiner : _) (timed : Bool) → Born w n → Born (open_scope w t (task_at w t).frame x joiner timed) (n + 1)
unfolding open_scope
born-open w t x n joiner timed h =
    let a = length-set w.tasks t (record (task_at w t) { frame = opener w (task_at w t).frame x }) in
    let b = length-append w.scopes (new_scope w t joiner timed ∷ []) in
    omega (arith, a, b, h)

born-fork : (p : Program) (w : World) (t s g n : ℕ) (q : Option ℕ) → Born w n → Born (fork_task p w t (task_at w t).frame s g q) (n + 1)
unfolding fork_task
born-fork p w t s g n q h =
    let c : Task = subtask_of p w (task_at w t).frame s g in
    let a = length-set (w.tasks ++ c ∷ []) t (record (task_at (more_tasks w c) t) { frame = forked (task_at w t).frame (routine p g).args q (length w.tasks) }) in
    let b = length-append w.tasks (c ∷ []) in
    omega (arith, a, b, h)

born-effect : (p : Program) (w : World) (t n : ℕ) (i : Instr) → Also Timely w → Does p w t i → Born w n → Born (effect p w t (task_at w t).frame i) (n + 1)
born-effect p w t n (Open x timed joiner) facts d h = born-open w t x n joiner timed h
born-effect p w t n (Fork x g q) facts d h = born-fork p w t (named (slot (task_at w t).frame x)) g n q h
born-effect p w t n Ret facts d h = let k = born-kept w _ n (kept-end w t (Success (operand (task_at w t).frame 0)) d.alive d.fine.structure) h in omega (arith, k)
born-effect p w t n Fail facts d h = let k = born-kept w _ n (kept-end w t (Failed (operand (task_at w t).frame 0)) d.alive d.fine.structure) h in omega (arith, k)
born-effect p w t n i facts d h = let k = born-kept w _ n (still-effect p w t i facts.right.sound d.fine refl).kept h in omega (arith, k)

born-keeps : (p : Program) → Keeps p Born
born-keeps p =
    record {
      effect = λ w t n i facts ov later d h. born-effect p w t n i facts d h;
      interrupt = λ w t n facts ov later h. born-kept w _ n (still-interrupt w t).kept h;
      expire = λ w s n facts ov later h. born-kept w _ n (still-expire w s).kept h;
    }

pub births_are_steps : BirthsAreSteps
births_are_steps p events = counted-after p Born (born-keeps p) (omega arith) events
