-- What a local instruction can misuse: operands and loops.
use Rattle.std.proofs.Common.{◌≡◌, ℕ, Bool, true, false, Some, None, ◌||◌, cond, refl}
use Rattle.sts_code.specs.Program.{Program}
use Rattle.sts_code.specs.declared.instr.Instr.{Instr}
use Rattle.sts_code.specs.declared.instr.Instr.TheVariants.{Push}
use Rattle.sts_model.specs.declared.event.Fault.TheVariants.{Operand}
use Rattle.sts_model.specs.declared.record.Frame.{Frame}
use Rattle.sts_model.specs.Local.{is_local}
use Rattle.sts_model.specs.Misuse.{fault_of, lacks_operands, overflows, breaks_loop}
use Rattle.sts_model.specs.World.{World}

-- what the frame alone shows
abbrev of_frame : Program → Frame → Instr → Bool
of_frame p f i = lacks_operands p f i || overflows p f i || breaks_loop p f i

alone : (b : Bool) → cond (b || false || false || false) (Some Operand) None ≡ cond b (Some Operand) None
alone true = refl
alone false = refl

-- the other rows don't name it
pub local_fault : (p : Program) (w : World) (t : ℕ) (f : Frame) (i : Instr) → is_local i ≡ true → fault_of p w t f i ≡ cond (of_frame p f i) (Some Operand) None
local_fault p w t f (Push k) e = alone (of_frame p f (Push k))
local_fault p w t f i e = cc (alone (of_frame p f i))
