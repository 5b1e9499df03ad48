-- The numbers of tasks, scopes and bindings in the live views of an accepted program, and the room
-- that is left, in words of the view alone (this project's own).
use Rattle.std.specs.Prelude.{◌≡◌, ℕ, ◌≤◌, List, true, Option, Some, None, is_some, count_by}
use Rattle.std.specs.Prelude.{sum_by}
use Rattle.sts_code.specs.Program.{Program}
use Rattle.sts_code.specs.declared.instr.Instr.{Instr}
use Rattle.sts_rules.specs.declared.budget.Budgets.{Budgets}
use Rattle.sts_rules.specs.Refusal.{IsBudgetOf}
use Rattle.sts_model.specs.declared.event.Event.{Event}
use Rattle.sts_model.specs.declared.record.Frame.{Frame}
use Rattle.sts_model.specs.World.{instr_at}
use Rattle.sts_model.specs.Standing.{standing_bindings}
use Rattle.sts_model.specs.Misuse.{is_binding}
use Rattle.sts_model.specs.Run.{after}
use Rattle.sts_model.specs.Live.{Live, LiveTask, Alive, live}
use Rattle.laws_runs.specs.Runs.{In}
use Rattle.laws_live.specs.Reading.{alive_at, lives_in}
use Rattle.laws_live.specs.Seen.{StandsAt}
use Rattle.laws_accepted.specs.Accepted.{main_of}
use Rattle.laws_accepted.specs.Costs.{HasRoomBeside}

-- ---- what stands

abbrev pub live_tasks : Live → ℕ
live_tasks v = count_by is_some v.tasks

abbrev pub live_scopes : Live → ℕ
live_scopes v = count_by is_some v.scopes

-- the bindings that a task has open, if it lives
abbrev pub open_bindings : Option Alive → ℕ
open_bindings None = 0
open_bindings (Some alive) = count_by is_binding alive.frame.entries

abbrev pub bindings_in : Option LiveTask → ℕ
bindings_in None = 0
bindings_in (Some task) = open_bindings task.alive

-- the open bindings of all living tasks: one record for each is all that is kept of bindings
abbrev pub live_bindings : Live → ℕ
live_bindings v = sum_by bindings_in v.tasks

-- the view has the bindings that count
abbrev pub BindingsAreSeen : Program → Type 0
BindingsAreSeen p =
    (events : List Event) → In (λ w. live_bindings (live w) ≡ standing_bindings w) (after p events)

-- ---- with the budgets that are printed of `main`

-- P holds for every view after a list of events
abbrev pub ViewsWithMain : Program → (Budgets → Live → Type 0) → Type 0
ViewsWithMain p P =
    (b : Budgets) → IsBudgetOf p (main_of p) b
    → (events : List Event) (v : Live) (n : ℕ) → StandsAt p events v n → P b v

-- the numbers of the view are within the budgets
pub record IsWithin (b : Budgets) (v : Live) : Type 0 where
  pub tasks : live_tasks v ≤ b.tasks
  pub scopes : live_scopes v ≤ b.scopes
  pub binds : live_bindings v ≤ b.binds

abbrev pub ViewsAreWithin : Program → Type 0
ViewsAreWithin p = ViewsWithMain p IsWithin

-- the numbers of the view leave room for what this instruction of a frame opens, binds or forks in
-- a scope of its own
abbrev pub LiveHasRoomFor : Budgets → Live → Frame → Instr → Type 0
LiveHasRoomFor b v f i =
    HasRoomBeside b (live_tasks v) (live_scopes v) (live_bindings v) f i

-- the view has room for the next instruction of each living task
abbrev pub LiveHasRoom : Program → Budgets → Live → Type 0
LiveHasRoom p b v =
    (t : ℕ) (i : Instr) → lives_in v t ≡ true → instr_at p (alive_at v t).frame ≡ Some i
    → LiveHasRoomFor b v (alive_at v t).frame i

abbrev pub ViewsHaveRoom : Program → Type 0
ViewsHaveRoom p = ViewsWithMain p (LiveHasRoom p)
