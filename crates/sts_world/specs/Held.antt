-- A task's frame as it is held: in full while the task lives, and later only its used parts (this
-- project's own).
use Rattle.std.specs.Prelude.{ℕ, [], ◌∷◌, reverse, replicate, Bool, true, false, Option, Some, None}
use Rattle.sts_code.specs.declared.limits.TheConstants.{LAST_SLOT}
use Rattle.sts_model.specs.declared.record.Frame.{Frame}
use Rattle.sts_model.specs.declared.record.Slot.{Slot}
use Rattle.sts_model.specs.declared.record.Slot.TheVariants.{Empty, Lent}
use Rattle.sts_model.specs.World.{entry_locals}
use Rattle.sts_world.specs.declared.held.RestingFrame.{RestingFrame}
use Rattle.sts_world.specs.declared.held.HeldFrame.{HeldFrame}
use Rattle.sts_world.specs.declared.held.HeldFrame.TheVariants.{Living, Resting}

-- slot 0 of a task that is in this scope, or in none
abbrev pub slot_of : Option ℕ → Slot
slot_of None = Empty
slot_of (Some s) = Lent s

-- the frame at rest: no loop and no entry is open, only the first slot is used, and the other
-- locals are 0
abbrev pub whole : RestingFrame → Frame
whole r =
    record {
      function = r.function;
      pc = r.pc;
      operands = reverse r.operands.items;
      locals = entry_locals r.locals.items;
      loops = [];
      entries = [];
      slots = slot_of r.scope ∷ replicate LAST_SLOT Empty;
    }

abbrev pub frame_of : HeldFrame → Frame
frame_of (Living frame) = frame.value
frame_of (Resting r) = whole r

abbrev pub is_living : HeldFrame → Bool
is_living (Living frame) = true
is_living (Resting r) = false
