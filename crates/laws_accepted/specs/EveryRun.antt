-- Promises for every run of an accepted program, whatever the events are.
-- Two of them restate "Description" of JEP 505: no subtask of a closed scope lives, and no task
-- outlives the root. (The lifetime of subtasks and scopes is confined to the block that opened the
-- scope.) The rest is this project's own.
use Rattle.std.specs.Prelude.{◌≡◌, ℕ, ◌≤◌, List, true, false, Some}
use Rattle.sts_code.specs.Program.{Program}
use Rattle.sts_rules.specs.declared.budget.Budgets.{Budgets}
use Rattle.sts_model.specs.declared.event.Event.{Event}
use Rattle.sts_model.specs.declared.event.End.{End}
use Rattle.sts_model.specs.World.{World, Running, task_at, scope_at}
use Rattle.sts_model.specs.Living.{lives, is_closed}
use Rattle.sts_model.specs.Standing.{standing_tasks, standing_scopes, standing_bindings}
use Rattle.sts_model.specs.Waiting.{can_step}
use Rattle.sts_model.specs.Run.{after, taken}

-- no subtask of a closed scope lives
abbrev pub ClosedAreEmpty : World → Type 0
ClosedAreEmpty w =
    (s u : ℕ) → is_closed (scope_at w s).phase ≡ true → (task_at w u).scope ≡ Some s
    → lives (task_at w u) ≡ false

-- if the root has ended, no task lives
abbrev pub RootIsLast : World → Type 0
RootIsLast w =
    (end : End) (u : ℕ) → (task_at w 0).outcome ≡ Some end → lives (task_at w u) ≡ false

-- while the root lives some task can step
abbrev pub SomeCanStep : Program → World → Type 0
SomeCanStep p w = lives (task_at w 0) ≡ true → (t : ℕ) × (can_step p w t ≡ true)

-- The promises after these events, for a program with this budget of `main`. It has not faulted.
-- Its closed scopes are empty, its root ends last, and until then some task can step. Neither the
-- steps taken nor the tasks, scopes and bindings that count are more than the budget.
pub record RunsWell (p : Program) (budget : Budgets) (events : List Event) : Type 0 where
  pub world : World
  pub no_fault : after p events ≡ Running world
  pub closed : ClosedAreEmpty world
  pub root : RootIsLast world
  pub goes_on : SomeCanStep p world
  pub steps : taken p events ≤ budget.steps
  pub tasks : standing_tasks world ≤ budget.tasks
  pub scopes : standing_scopes world ≤ budget.scopes
  pub binds : standing_bindings world ≤ budget.binds
