-- The numbers of tasks, scopes and bindings that count, and of those that can still be made (this
-- project's own).
use Rattle.std.specs.Prelude.{◌≡◌, ◌+◌}
use Rattle.sts_rules.specs.declared.budget.Budgets.{Budgets}
use Rattle.sts_model.specs.World.{World}
use Rattle.sts_model.specs.Standing.{standing_tasks, standing_scopes, standing_bindings}
use Rattle.sts_model.specs.Live.{Live}
use Rattle.laws_accepted.specs.Views.{live_tasks, live_scopes, live_bindings}
use Rattle.sts_store.specs.Parts.{Unseen}
use Rattle.sts_machine.specs.declared.standing.Standing.{Standing}

-- the numbers that count in a view
abbrev pub standing_of : Live → Standing
standing_of v = record { tasks = live_tasks v; scopes = live_scopes v; binds = live_bindings v }

-- the numbers that count in a state of the plain machine
abbrev pub standing_in : World → Standing
standing_in w =
    record { tasks = standing_tasks w; scopes = standing_scopes w; binds = standing_bindings w }

-- what more can be made
abbrev pub room_of : Unseen → Standing
room_of u = record { tasks = u.task_room; scopes = u.scope_room; binds = u.binding_room }

-- the numbers that count and those that can still be made add up to these budgets
pub record AddUpTo (b : Budgets) (standing room : Standing) : Type 0 where
  pub tasks : standing.tasks + room.tasks ≡ b.tasks
  pub scopes : standing.scopes + room.scopes ≡ b.scopes
  pub binds : standing.binds + room.binds ≡ b.binds
