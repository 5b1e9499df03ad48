-- The work that a task does by itself, outside of a machine (this project's own).
use Rattle.std.specs.Prelude.{◌≡◌, ℕ, ◌≤◌, List, true, Some, replicate}
use Rattle.sts_code.specs.Program.{Program}
use Rattle.sts_code.specs.declared.instr.Instr.{Instr}
use Rattle.sts_model.specs.declared.event.Event.{Event}
use Rattle.sts_model.specs.declared.event.Event.TheVariants as event
use Rattle.sts_model.specs.declared.record.Frame.{Frame}
use Rattle.sts_model.specs.World.{code}
use Rattle.sts_model.specs.Live.{Live}
use Rattle.sts_frames.specs.Locals.{locals}
use Rattle.laws_live.specs.Reading.{alive_at, lives_in}
use Rattle.laws_live.specs.Seen.{StandsAt, TurnsAreSeen}
use Rattle.laws_live.specs.Fine.{TurnsAreSafe}
use Rattle.laws_accepted.specs.Accepted.{LimitsHold}
use Rattle.sts_machine.specs.Machine.{Seen}

-- `count` steps of this task
abbrev pub steps_of : ℕ → ℕ → List Event
steps_of count t = replicate count (event.Step t)

-- the frame of a task, and the code of its function
abbrev pub frame_at : Seen → ℕ → Frame
frame_at m t = (alive_at m.live t).frame

abbrev pub code_at : Seen → ℕ → List Instr
code_at m t = code m.program (frame_at m t)

-- ---- slices

-- What contracts see of a slice: its task, the code of its function, the frame that was taken out,
-- the current frame, and the number of instructions between the two.
pub record Cut : Type 0 where
  pub task : ℕ
  pub code : List Instr
  pub start : Frame
  pub frame : Frame
  pub count : ℕ

-- some list of events leads to a view where the task lives at this frame
pub record IsReached (p : Program) (t : ℕ) (f : Frame) : Type 0 where
  pub events : List Event
  pub view : Live
  pub steps : ℕ
  pub stands : StandsAt p events view steps
  pub lives : lives_in view t ≡ true
  pub frame : (alive_at view t).frame ≡ f

-- the facts of an accepted program that local instructions need
pub record IsLawful (p : Program) : Type 0 where
  pub seen : TurnsAreSeen p
  pub safe : TurnsAreSafe p
  pub limits : LimitsHold p

-- The frame is the starting one after the counted number of local instructions. The task may have
-- got there by the same number of steps. The program is an accepted one.
pub record IsSlice (p : Program) (t : ℕ) (start frame : Frame) (count : ℕ) : Type 0 where
  pub lawful : IsLawful p
  pub local : locals (code p start) start count ≡ Some frame
  pub reached : IsReached p t frame
  pub taken : count ≤ reached.steps

-- the slice was taken from a task that lives in the machine and is still at the same frame; its
-- code is the code of the task's function
pub record Fits (m : Seen) (s : Cut) : Type 0 where
  pub lives : lives_in m.live s.task ≡ true
  pub start : s.start ≡ (alive_at m.live s.task).frame
  pub code : s.code ≡ code m.program s.start
