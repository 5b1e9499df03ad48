-- The room that is left for more tasks, scopes and bindings (this project's own).
use Rattle.std.specs.Prelude.{◌≡◌, ℕ, ◌+◌, ◌<◌, Bool, false, Option, Some, None, is_some, count_by}
use Rattle.sts_code.specs.declared.instr.Instr.{Instr}
use Rattle.sts_code.specs.declared.instr.Instr.TheVariants.{Open, Fork, Bind}
use Rattle.sts_rules.specs.declared.budget.Budgets.{Budgets}
use Rattle.sts_model.specs.declared.record.Slot.TheVariants.{Own}
use Rattle.sts_model.specs.declared.record.Frame.{Frame}
use Rattle.sts_model.specs.Live.{Live, LiveTask}
use Rattle.sts_model.specs.Misuse.{slot}
use Rattle.laws_accepted.specs.Views.{live_tasks, live_scopes, live_bindings}
use Rattle.sts_store.specs.Parts.{Unseen}

abbrev pub is_living : Option LiveTask → Bool
is_living None = false
is_living (Some task) = is_some task.alive

-- the tasks that live
abbrev pub living_tasks : Live → ℕ
living_tasks v = count_by is_living v.tasks

-- the numbers that count and the room that is left add up to these budgets
pub record HasRoomOf (b : Budgets) (v : Live) (u : Unseen) : Type 0 where
  pub tasks : live_tasks v + u.task_room ≡ b.tasks
  pub frames : living_tasks v + u.frame_room ≡ b.tasks
  pub scopes : live_scopes v + u.scope_room ≡ b.scopes
  pub binds : live_bindings v + u.binding_room ≡ b.binds

-- there is room for what this instruction of a frame opens, binds or forks
abbrev pub HasRoomLeft : Unseen → Frame → Instr → Type 0
HasRoomLeft u f (Open x timed joiner) = 0 < u.scope_room
HasRoomLeft u f (Bind key) = 0 < u.binding_room
HasRoomLeft u f (Fork x g h) =
    (s : ℕ) → slot f x ≡ Own s → (0 < u.task_room) × (0 < u.frame_room)
HasRoomLeft u f _ = Unit {0}
