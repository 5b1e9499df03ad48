-- The budget of tasks of `main` is from 1 to the limit.
use Rattle.std.proofs.Common.{◌≡◌, ◌<◌, ◌≤◌, length, sym, ◌∙◌, subst, arith}
use Rattle.sts_code.specs.Program.{Program, routine}
use Rattle.sts_rules.specs.declared.budget.Budgets.{Budgets}
use Rattle.sts_rules.specs.declared.typing.Cause.TheVariants.{TooManyTasks}
use Rattle.sts_rules.specs.ControlPaths.{PointHolds}
use Rattle.sts_rules.specs.Budget.{skeleton, tasks_sum}
use Rattle.sts_rules.specs.Refusal.{IsAccepted, IsBudgetOf}
use Rattle.sts_rules.proofs.VerdictLemmas.{are_one}
use Rattle.laws_accepted.specs.Accepted.{main_of}
use Rattle.laws_accepted.proofs.RangeLemmas.{not_more}

pub few_tasks : (p : Program) (b : Budgets) → IsAccepted p → 0 < length p.routines → IsBudgetOf p (main_of p) b → b.tasks ≤ 65536
few_tasks p b accepted some (earlier, (long, right, is)) =
    let s = accepted.sound (main_of p) (omega (arith, some)) in
    let same : earlier ≡ s.earlier = are_one p earlier s.earlier (long ∙ sym s.long) right s.right in
    let holds : PointHolds (skeleton s.earlier (routine p (main_of p)).code) (tasks_sum s.earlier) b.tasks =
    subst (λ es. PointHolds (skeleton es (routine p (main_of p)).code) (tasks_sum es) b.tasks) same is.tasks.0 in
    not_more 65536 b.tasks (λ more. s.within TooManyTasks (b.tasks, (holds, more)))

pub some_task : (p : Program) (b : Budgets) → IsBudgetOf p (main_of p) b → 0 < b.tasks
some_task p b (earlier, (long, right, is)) = by is.tasks.0
  where
    by : PointHolds (skeleton earlier (routine p (main_of p)).code) (tasks_sum earlier) b.tasks → 0 < b.tasks
    by (pc, (loops, (before, (entries, (comes, same))))) = omega (arith, same)
