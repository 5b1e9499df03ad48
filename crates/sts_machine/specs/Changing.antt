-- The changes that an instruction of one task may make to the parts that the view doesn't show
-- (this project's own).
use Rattle.std.specs.Prelude.{◌≡◌, ℕ, ◌+◌, Bool, true, false, not, Option, Some, None, ◌==◌}
use Rattle.std.specs.Prelude.{if◌then◌else◌}
use Rattle.sts_code.specs.declared.instr.Instr.{Instr}
use Rattle.sts_code.specs.declared.instr.Instr.TheVariants.{Join, Close, Bind, Unbind, Ret, Fail}
use Rattle.sts_model.specs.declared.event.Stand.TheVariants.{Free}
use Rattle.sts_model.specs.Effect.{takes_memory}
use Rattle.sts_model.specs.Live.{Live}
use Rattle.laws_live.specs.Reading.{lives_in}
use Rattle.laws_accepted.specs.Views.{live_tasks, live_scopes, live_bindings}
use Rattle.sts_store.specs.Parts.{Unseen, stand_in}
use Rattle.sts_machine.specs.Room.{living_tasks}

-- does it leave the numbers of tasks, scopes and bindings unchanged, and nothing to record?
abbrev pub is_quiet : Instr → Bool
is_quiet (Close x) = false
is_quiet (Bind k) = false
is_quiet Unbind = false
is_quiet i = not (takes_memory i)

-- may a scope be recorded for its task, before it or after it?
abbrev pub may_wait : Instr → Bool
may_wait (Join x failed timeout interrupted) = true
may_wait (Close x) = true
may_wait _ = false

-- may a scope be recorded for a task with this next instruction?
abbrev pub may_wait_next : Option Instr → Bool
may_wait_next None = false
may_wait_next (Some i) = may_wait i

-- does its task end by it?
abbrev pub ends_task : Instr → Bool
ends_task Ret = true
ends_task Fail = true
ends_task _ = false

-- an instruction of t changed the view from v to x, and the parts that the view doesn't show from u
-- to w
pub record Changes (v : Live) (u : Unseen) (x : Live) (w : Unseen) (t : ℕ) : Type 0 where
  -- each living task other than t has the same recorded scope as before, or none if it was just
  -- born
  pub others : (i : ℕ) → (i == t) ≡ false → lives_in x i ≡ true →
      stand_in w i ≡ (if lives_in v i then stand_in u i else Free)
  -- the sums of the numbers that count and of the room that is left don't change
  pub tasks : live_tasks x + w.task_room ≡ live_tasks v + u.task_room
  pub frames : living_tasks x + w.frame_room ≡ living_tasks v + u.frame_room
  pub scopes : live_scopes x + w.scope_room ≡ live_scopes v + u.scope_room
  pub binds : live_bindings x + w.binding_room ≡ live_bindings v + u.binding_room
