-- The report of a run (this project's own).
use Rattle.std.specs.Prelude.{◌≡◌, ◌+◌, ◌≤◌, List, [], length, count_by, Bool, Some, None}
use Rattle.std.specs.Prelude.{if◌then◌else◌}
use Rattle.sts_code.specs.Program.{Program}
use Rattle.sts_code.specs.declared.limits.TheConstants.{MAX_OUTSIDE}
use Rattle.sts_rules.specs.declared.budget.Budgets.{Budgets}
use Rattle.sts_rules.specs.Refusal.{IsBudgetOf}
use Rattle.sts_model.specs.declared.event.End.{End}
use Rattle.sts_model.specs.declared.event.Event.{Event}
use Rattle.sts_model.specs.World.{World, Running, task_at}
use Rattle.sts_model.specs.Run.{after, is_step, taken}
use Rattle.laws_accepted.specs.Accepted.{main_of}
use Rattle.sts_pool.specs.declared.report.Report.{Report}

-- the steps taken are within the budget of `main`, and the other entries within the limit of
-- outside events
pub record IsBounded (p : Program) (journal : List Event) (budget : Budgets) : Type 0 where
  pub steps : taken p journal ≤ budget.steps
  pub entries : length journal ≤ budget.steps + MAX_OUTSIDE

-- the journal leads to this end of the root without a fault, within the printed budget, and each
-- step in it counted
pub record IsReport (p : Program) (journal : List Event) (end : End) : Type 0 where
  pub world : World
  pub runs : after p journal ≡ Running world
  pub ended : (task_at world 0).outcome ≡ Some end
  pub steps : taken p journal ≡ count_by is_step journal
  pub bounded : (b : Budgets) → IsBudgetOf p (main_of p) b → IsBounded p journal b

-- Some journal leads to the reported end of the root without a fault, with the reported number of
-- steps. Its interrupts and expiries are those that came from outside. The report has this journal
-- if it is written, and else an empty one.
pub record IsReportOf (is_written : Bool) (p : Program) (Came : List Event → Type 0) (r : Report)
    : Type 0 where
  pub journal : List Event
  pub report : IsReport p journal r.end
  pub steps : r.steps ≡ count_by is_step journal
  pub came : Came journal
  pub held : r.journal.items ≡ (if is_written then journal else [])

-- the journal leads to a state without a fault, in which the root lives
pub record IsUnfinished (p : Program) (journal : List Event) : Type 0 where
  pub world : World
  pub runs : after p journal ≡ Running world
  pub lives : (task_at world 0).outcome ≡ None

-- some journal leads to such a state; its interrupts and expiries are those that came from outside
pub record EndsUnfinished (p : Program) (Came : List Event → Type 0) : Type 0 where
  pub journal : List Event
  pub unfinished : IsUnfinished p journal
  pub came : Came journal
