-- What is known of the instruction that a task does next (this project's own).
use Rattle.std.specs.Prelude.{◌≡◌, ℕ, ◌+◌, ◌^◌, ◌<◌, length, true, Some, Bool, not, ◌&&◌, nat_lt}
use Rattle.sts_code.specs.Program.{Program}
use Rattle.sts_code.specs.declared.instr.Instr.{Instr}
use Rattle.sts_model.specs.declared.record.Frame.{Frame}
use Rattle.sts_model.specs.Living as living
use Rattle.sts_model.specs.Local.{stays_in_frame}
use Rattle.sts_model.specs.Misuse.{IsFine, overflows, breaks_loop}
use Rattle.sts_model.specs.World.{World, code, instr_at, task_at}

-- the task t lives, its next instruction is i, and i is no misuse
pub record IsNext (p : Program) (w : World) (t : ℕ) (i : Instr) : Type 0 where
  pub born : t < length w.tasks
  pub lives : living.lives (task_at w t) ≡ true
  pub at : instr_at p (task_at w t).frame ≡ Some i
  pub more : (task_at w t).frame.pc + 1 < 2 ^ 32
  pub short : length (code p (task_at w t).frame) < 2 ^ 32
  pub fine : IsFine p w t (task_at w t).frame i

-- i stays in the frame, leaves no operand too many and breaks no loop, and pc is a place of the
-- function
abbrev pub frame_can_do : Program → Frame → Instr → Bool
frame_can_do p f i =
    stays_in_frame i
    && not (overflows p f i)
    && not (breaks_loop p f i)
    && nat_lt f.pc (length (code p f))
