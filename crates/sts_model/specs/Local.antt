-- Instructions that read and change their frame alone, and leave its entries (this project's own).
-- All of them but `forget` are local: they leave the slots, too.
use Rattle.std.specs.Prelude.{ℕ, ◌+◌, ◌-◌, ℤ, pos, negsuc, ◌+ℤ◌, ◌-ℤ◌, ◌*ℤ◌, int_lt, List, [], ◌∷◌}
use Rattle.std.specs.Prelude.{◌++◌, drop, min, Bool, true, false, Option, nat_le, ◌==◌}
use Rattle.std.specs.Prelude.{if◌then◌else◌, slice_set, slice_index_or}
use Rattle.std.specs.Prelude.{unwrap_or, is_some, Some, None, ◌||◌}
use Rattle.std.specs.Int.{int_wrap, int_wrapping_div, w64}
use Rattle.std.specs.Ordering.{int_eq}
use Rattle.sts_code.specs.declared.instr.Instr.{Instr}
use Rattle.sts_code.specs.declared.instr.Instr.TheVariants.{Push, Pop, Dup, Swap, Load, Store, Add}
use Rattle.sts_code.specs.declared.instr.Instr.TheVariants.{Sub, Mul, Lt, Eq, Div, Jmp, Jz, Times}
use Rattle.sts_code.specs.declared.instr.Instr.TheVariants.{Next, Forget}
use Rattle.sts_code.specs.Loops.{match_of}
use Rattle.sts_model.specs.declared.record.Frame.{Frame}
use Rattle.sts_model.specs.declared.record.Loop.{Loop}
use Rattle.sts_model.specs.declared.record.Slot.TheVariants.{Empty}

-- is it a local instruction?
abbrev pub is_local : Instr → Bool
is_local (Push k) = true
is_local Pop = true
is_local Dup = true
is_local Swap = true
is_local (Load x) = true
is_local (Store x) = true
is_local Add = true
is_local Sub = true
is_local Mul = true
is_local Lt = true
is_local Eq = true
is_local (Div to) = true
is_local (Jmp to) = true
is_local (Jz to) = true
is_local (Times n) = true
is_local Next = true
is_local _ = false

-- the slot that such an instruction empties, if it empties one (`close` changes a scope, too)
abbrev pub emptied_slot : Instr → Option ℕ
emptied_slot (Forget h) = Some h
emptied_slot i = None

-- does the instruction read and change its frame alone, and leave its entries?
abbrev pub stays_in_frame : Instr → Bool
stays_in_frame i = is_local i || is_some (emptied_slot i)

-- an operand by its distance from the top
abbrev pub operand : Frame → ℕ → ℤ
operand f n = slice_index_or f.operands n (pos 0)

-- the frame at this pc, after it popped n operands and pushed these
abbrev pub goes : Frame → ℕ → ℕ → List ℤ → Frame
goes f to n pushed = record f { pc = to; operands = pushed ++ drop n f.operands }

-- the same at the next pc
abbrev pub steps : Frame → ℕ → List ℤ → Frame
steps f n pushed = goes f (f.pc + 1) n pushed

-- a truth value as an operand
abbrev pub truth : Bool → ℤ
truth b = if b then pos 1 else pos 0

-- a number of turns, clipped to 0..n
abbrev pub clipped : ℕ → ℤ → ℕ
clipped n (pos k) = min k n
clipped n (negsuc k) = 0

-- enters the loop at this `times` with these turns, or goes past it if there are none
abbrev pub enters : List Instr → Frame → ℕ → Frame
enters code f turns =
    if turns == 0
    then goes f (unwrap_or (match_of code f.pc) 0 + 1) 1 []
    else record (steps f 1 []) { loops = record { at = f.pc; left = turns } ∷ f.loops }

-- one turn less of the innermost loop, which is dropped when none is left
abbrev pub turns : Frame → List Loop → Frame
turns f [] = f
turns f (l ∷ ls) =
    if nat_le l.left 1
    then record (steps f 0 []) { loops = ls }
    else record f { pc = l.at + 1; loops = record l { left = l.left - 1 } ∷ ls }

-- an instruction that stays in the frame
abbrev pub local : List Instr → Instr → Frame → Frame
local code (Push k) f = steps f 0 (k ∷ [])
local code Pop f = steps f 1 []
local code Dup f = steps f 0 (operand f 0 ∷ [])
local code Swap f = steps f 2 (operand f 1 ∷ operand f 0 ∷ [])
local code (Load x) f = steps f 0 (slice_index_or f.locals x (pos 0) ∷ [])
local code (Store x) f = record (steps f 1 []) { locals = slice_set f.locals x (operand f 0) }
local code Add f = steps f 2 (int_wrap w64 (operand f 1 +ℤ operand f 0) ∷ [])
local code Sub f = steps f 2 (int_wrap w64 (operand f 1 -ℤ operand f 0) ∷ [])
local code Mul f = steps f 2 (int_wrap w64 (operand f 1 *ℤ operand f 0) ∷ [])
local code Lt f = steps f 2 (truth (int_lt (operand f 1) (operand f 0)) ∷ [])
local code Eq f = steps f 2 (truth (int_eq (operand f 1) (operand f 0)) ∷ [])
local code (Div to) f =
    if int_eq (operand f 0) (pos 0)
    then goes f to 2 []
    else steps f 2 (int_wrapping_div w64 (operand f 1) (operand f 0) ∷ [])
local code (Jmp to) f = goes f to 0 []
local code (Jz to) f = goes f (if int_eq (operand f 0) (pos 0) then to else f.pc + 1) 1 []
local code (Times n) f = enters code f (clipped n (operand f 0))
local code Next f = turns f f.loops
local code (Forget h) f = record (steps f 0 []) { slots = slice_set f.slots h Empty }
local code _ f = f
