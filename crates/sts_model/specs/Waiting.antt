-- Which tasks are at a `join` or a `close`, and which can step.
-- Restates `join` and `close` of `StructuredTaskScope`: `join` waits until all subtasks have
-- completed or the scope is cancelled, `close` until all threads have finished. It says too that an
-- interrupt ends the wait of `join`, and not that of `close`. The order in which `join` looks is
-- this project's own.
use Rattle.std.specs.Prelude.{ℕ, Bool, true, false, Option, Some, None, ◌&&◌, ◌||◌, not}
use Rattle.std.specs.Prelude.{if◌then◌else◌}
use Rattle.sts_code.specs.Program.{Program}
use Rattle.sts_code.specs.declared.instr.Instr.{Instr}
use Rattle.sts_code.specs.declared.instr.Instr.TheVariants.{Join, Close}
use Rattle.sts_model.specs.declared.event.Phase.{Phase}
use Rattle.sts_model.specs.declared.event.Phase.TheVariants.{Closing}
use Rattle.sts_model.specs.declared.event.Stand.{Stand}
use Rattle.sts_model.specs.declared.event.Stand.TheVariants.{Free, AtJoin, AtClose}
use Rattle.sts_model.specs.declared.event.Fault.{Fault}
use Rattle.sts_model.specs.declared.record.Slot.{Slot}
use Rattle.sts_model.specs.declared.record.Slot.TheVariants.{Own}
use Rattle.sts_model.specs.declared.record.Task.{Task}
use Rattle.sts_model.specs.World.{World, task_at, scope_at, instr_at}
use Rattle.sts_model.specs.Living.{lives, any_lives}
use Rattle.sts_model.specs.Misuse.{slot, misuse}

-- at the `join` of a scope that the slot owns, if nothing is misused; the next step of a misused
-- `join` is its fault
abbrev pub stands_at_join : Option Fault → Slot → Stand
stands_at_join None (Own s) = AtJoin s
stands_at_join _ _ = Free

abbrev pub is_closing : Phase → Bool
is_closing Closing = true
is_closing _ = false

-- at the `close` of a scope that the slot owns, after the close began
abbrev pub stands_at_close : World → Slot → Stand
stands_at_close w (Own s) = if is_closing (scope_at w s).phase then AtClose s else Free
stands_at_close w _ = Free

abbrev pub stand_at_instr : Program → World → ℕ → Option Instr → Stand
stand_at_instr p w t (Some (Join x failed timeout interrupted)) =
    stands_at_join (misuse p w t) (slot (task_at w t).frame x)
stand_at_instr p w t (Some (Close x)) = stands_at_close w (slot (task_at w t).frame x)
stand_at_instr p w t _ = Free

-- whether the task is at a `join`, at a `close` that has begun, or at neither
abbrev pub stand_at : Program → World → ℕ → Stand
stand_at p w t = stand_at_instr p w t (instr_at p (task_at w t).frame)

-- may the task take its next step?
abbrev pub can_go : World → Task → Stand → Bool
can_go w task Free = true
can_go w task (AtJoin s) =
    (scope_at w s).expired || (scope_at w s).cancelled || not (any_lives w s) || task.flag
can_go w task (AtClose s) = not (any_lives w s)

abbrev pub can_step : Program → World → ℕ → Bool
can_step p w t = lives (task_at w t) && can_go w (task_at w t) (stand_at p w t)
