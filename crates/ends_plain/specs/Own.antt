-- Own steps: no other task and no outside event can notice when they come (this project's own).
-- While a task can take one, the search goes on with that step alone.
use Rattle.std.specs.Prelude.{ℕ, length, Bool, true, false, Option, Some, None}
use Rattle.std.specs.Prelude.{nat_lt, is_none, find, ◌&&◌}
use Rattle.std.specs.List.{range_with_len}
use Rattle.sts_code.specs.Program.{Program}
use Rattle.sts_code.specs.declared.instr.Instr.{Instr}
use Rattle.sts_code.specs.declared.instr.Instr.TheVariants.{Div, Jmp, Jz, Bind, Unbind}
use Rattle.sts_code.specs.declared.instr.Instr.TheVariants.{Read, Bound, OrElse}
use Rattle.sts_model.specs.declared.record.Frame.{Frame}
use Rattle.sts_model.specs.World.{World, State, Running, Faulted, task_at, instr_at}
use Rattle.sts_model.specs.Local.{stays_in_frame}
use Rattle.sts_model.specs.Living.{lives}
use Rattle.sts_model.specs.Misuse.{misuse}

-- does the instruction change the task's frame alone, and read besides only the scoped values? A
-- jump back is left out, since a task could take it for ever
abbrev pub is_own : Frame → Instr → Bool
is_own f (Div to) = nat_lt f.pc to
is_own f (Jmp to) = nat_lt f.pc to
is_own f (Jz to) = nat_lt f.pc to
is_own f (Bind k) = true
is_own f Unbind = true
is_own f (Read k) = true
is_own f (Bound k) = true
is_own f (OrElse k) = true
is_own f i = stays_in_frame i

abbrev pub is_own_at : Frame → Option Instr → Bool
is_own_at f None = false
is_own_at f (Some i) = is_own f i

-- does the task live, and is its next step its own and no fault?
abbrev pub has_own_step : Program → World → ℕ → Bool
has_own_step p w t =
    lives (task_at w t) && is_own_at (task_at w t).frame (instr_at p (task_at w t).frame)
    && is_none (misuse p w t)

-- the first task that has an own step, if there is one
abbrev pub own_task : Program → World → Option ℕ
own_task p w = find (has_own_step p w) (range_with_len 0 (length w.tasks))

abbrev pub own_step_of : Program → State → Option ℕ
own_step_of p (Faulted kind t f pc) = None
own_step_of p (Running w) = own_task p w
