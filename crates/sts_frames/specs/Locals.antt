-- Local instructions, one after the other (this project's own).
use Rattle.std.specs.Prelude.{◌≡◌, ℕ, zero, suc, ◌<◌, List, length, false, Option, Some, None}
use Rattle.std.specs.Prelude.{option_map, slice_get, if◌then◌else◌}
use Rattle.sts_code.specs.Program.{Program}
use Rattle.sts_code.specs.declared.instr.Instr.{Instr}
use Rattle.sts_model.specs.declared.record.Frame.{Frame}
use Rattle.sts_model.specs.World.{code}
use Rattle.sts_model.specs.Local.{is_local, local}
use Rattle.sts_model.specs.Misuse.{overflows, breaks_loop}

-- an instruction, if it is a local one
abbrev pub if_local : Option Instr → Option Instr
if_local None = None
if_local (Some i) = if is_local i then Some i else None

-- the next instruction, if it is a local one
abbrev pub local_at : List Instr → Frame → Option Instr
local_at is f = if_local (slice_get is f.pc)

-- the frame, moved to this place
abbrev pub moved_to : Frame → ℕ → Frame
moved_to f pc = record f { pc = pc }

-- the frame after one local instruction more
abbrev pub and_local : List Instr → Option Frame → Option Frame
and_local is None = None
and_local is (Some f) = option_map (λ i. local is i f) (local_at is f)

-- the frame after n local instructions, or none if one of them isn't local
abbrev pub locals : List Instr → Frame → ℕ → Option Frame
locals is f zero = Some f
locals is f (suc n) = and_local is (locals is f n)

-- a frame at some instruction of its function's code; if that is a local one, it is no misuse
pub record IsSafe (p : Program) (is : List Instr) (f : Frame) : Type 0 where
  pub own_code : is ≡ code p f
  pub inside : f.pc < length is
  pub room : (i : Instr) → local_at is f ≡ Some i → overflows p f i ≡ false
  pub loops : (i : Instr) → local_at is f ≡ Some i → breaks_loop p f i ≡ false

-- this frame is safe, and so is each frame that local instructions lead to
abbrev pub AreSafe : Program → List Instr → Frame → Type 0
AreSafe p is f = (n : ℕ) (g : Frame) → locals is f n ≡ Some g → IsSafe p is g
