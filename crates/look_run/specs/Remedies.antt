-- What to do about a fault of a run. It depends on the instruction, and on the state of the task
-- there (this project's own).
use Rattle.std.specs.Prelude.{ℕ, ◌+◌, ◌-◌, List, [], ◌∷◌, length, take, Bool, Option, Some, None}
use Rattle.std.specs.Prelude.{is_some, is_none, if◌then◌else◌, nat_le, nat_lt}
use Rattle.std.specs.List.{fold}
use Rattle.sts_code.specs.Program.{Program}
use Rattle.sts_code.specs.Facts.{owners_slot, subtask_slot, filled_slot, can_fail}
use Rattle.sts_code.specs.Loops.{match_of}
use Rattle.sts_code.specs.declared.limits.TheConstants.{MAX_ENTRIES, MAX_OPERANDS}
use Rattle.sts_code.specs.declared.instr.Instr.{Instr}
use Rattle.sts_code.specs.declared.instr.Instr.TheVariants as i
use Rattle.sts_model.specs.Living.{scope_of}
use Rattle.sts_model.specs.Misuse.{lacks_operands, overflows, breaks_loop, has_wrong_slot, slot}
use Rattle.sts_model.specs.Misuse.{is_scope, is_readable}
use Rattle.sts_model.specs.World.{World, code, task_at, scope_at, instr_at}
use Rattle.sts_model.specs.declared.event.Fault.{Fault}
use Rattle.sts_model.specs.declared.event.Fault.TheVariants as fault
use Rattle.sts_model.specs.declared.event.Phase.{Phase}
use Rattle.sts_model.specs.declared.event.Phase.TheVariants as phase
use Rattle.sts_model.specs.declared.record.Entry.{Entry}
use Rattle.sts_model.specs.declared.record.Entry.TheVariants as entry
use Rattle.sts_model.specs.declared.record.Frame.{Frame}
use Rattle.sts_model.specs.declared.record.Slot.{Slot}
use Rattle.sts_model.specs.declared.record.Slot.TheVariants as held
use Rattle.look_refusal.specs.Remedies.{label_remedy}
use Rattle.look_refusal.specs.declared.remedy.Remedy.{Remedy}
use Rattle.look_refusal.specs.declared.remedy.Remedy.TheVariants as r

-- ---- Operand

-- how many `times` are open after an instruction, by how many were open before it
abbrev pub open_after : ℕ → Instr → ℕ
open_after depth (i.Times n) = depth + 1
open_after depth i.Next = depth - 1
open_after depth instr = depth

-- how many are still open after these instructions
abbrev pub open_loops : List Instr → ℕ
open_loops instrs = fold open_after 0 instrs

-- is the place of a frame inside of a loop?
abbrev pub is_in_loop : Program → Frame → Bool
is_in_loop p f = nat_lt 0 (open_loops (take f.pc (code p f)))

-- a `times` or `next` that can't be done; a `next` inside of a loop ends one that was entered in
-- the middle
abbrev pub loop_remedy : Program → Frame → Instr → Remedy
loop_remedy p f i.Next = if is_in_loop p f then r.LoopCrossed else r.NextWithoutTimes
loop_remedy p f instr =
    if is_none (match_of (code p f) f.pc) then r.TimesWithoutNext else r.TooManyLoops

-- a slot that should hold a scope
abbrev pub no_scope : Slot → Remedy
no_scope (held.Sub t) = r.HoldsSubtask
no_scope _ = r.NoScope

-- a slot that should hold a subtask
abbrev pub no_subtask : Slot → Remedy
no_subtask (held.Own s) = r.HoldsScope
no_subtask (held.Lent s) = r.HoldsScope
no_subtask _ = r.NoSubtask

-- a slot that should be empty
abbrev pub not_empty : Slot → Remedy
not_empty (held.Own s) = r.FillsScope
not_empty (held.Lent s) = r.FillsParentScope
not_empty _ = r.FillsSubtask

-- the slot of a scope, then the slot that is filled, if there is one
abbrev pub scope_remedy : Frame → ℕ → Option ℕ → Remedy
scope_remedy f x None = no_scope (slot f x)
scope_remedy f x (Some h) =
    if is_scope (slot f x) then not_empty (slot f h) else no_scope (slot f x)

-- by the slots of a scope, of a subtask, and to be filled
abbrev pub held_remedy : Frame → Option ℕ → Option ℕ → Option ℕ → Remedy
held_remedy f (Some x) subtask filled = scope_remedy f x filled
held_remedy f None (Some h) filled = no_subtask (slot f h)
held_remedy f None None (Some x) = not_empty (slot f x)
held_remedy f None None None = r.NoScope

abbrev pub slot_remedy : Frame → Instr → Remedy
slot_remedy f (i.Cancelled x) = no_scope (slot f x)
slot_remedy f instr = held_remedy f (owners_slot instr) (subtask_slot instr) (filled_slot instr)

-- a `join` that doesn't fit its scope, with a label for failed or not, for timeout or not
abbrev pub join_remedy : World → Bool → Bool → Slot → Remedy
join_remedy w failed timeout (held.Own s) =
    label_remedy failed timeout (can_fail (scope_at w s).joiner)
join_remedy w failed timeout _ = r.FailedLabelMissing

-- no room for what it opens, or forks
abbrev pub room_remedy : World → Frame → Instr → Remedy
room_remedy w f (i.Open x timed j) =
    if nat_le MAX_ENTRIES (length f.entries) then r.TooManyOpen else r.NoRoomForScope
room_remedy w f (i.Fork x g h) = r.NoRoomForTask
room_remedy w f (i.Join x failed timeout interrupted) =
    if nat_le MAX_OPERANDS (length f.operands) then r.TooManyOperands
    else join_remedy w (is_some failed) (is_some timeout) (slot f x)
room_remedy w f _ = r.TooManyOpen

-- the first row that applies
abbrev pub operand_remedy : Program → World → Frame → Instr → Remedy
operand_remedy p w f instr =
    if lacks_operands p f instr then r.TooFewOperands
    else (if overflows p f instr then r.TooManyOperands
    else (if breaks_loop p f instr then loop_remedy p f instr
    else (if has_wrong_slot f instr then slot_remedy f instr else room_remedy w f instr)))

-- ---- IllegalState

-- the subtasks of a scope in this phase can't be read
abbrev pub unread_in : Phase → Remedy
unread_in phase.Attempted = r.ReadAfterInterrupt
unread_in phase.Joined = r.ReadAfterTimeout
unread_in _ = r.ReadBeforeJoin

abbrev pub unread : World → Slot → Remedy
unread w (held.Own s) = unread_in (scope_at w s).phase
unread w _ = r.ReadBeforeJoin

-- a subtask can't be read, or ended otherwise
abbrev pub ended_otherwise : Program → World → Slot → Remedy → Remedy
ended_otherwise p w (held.Sub t) otherwise =
    if is_readable p.profile (scope_of w t) then otherwise else unread_in (scope_of w t).phase
ended_otherwise p w _ otherwise = otherwise

abbrev pub state_remedy : Program → World → Frame → Instr → Remedy
state_remedy p w f (i.Fork x g h) = r.ForkAfterJoin
state_remedy p w f (i.Join x failed timeout interrupted) = r.JoinedAlready
state_remedy p w f (i.Tally x state) = unread w (slot f x)
state_remedy p w f (i.Total x) = unread w (slot f x)
state_remedy p w f (i.Get h) = ended_otherwise p w (slot f h) r.NotSuccess
state_remedy p w f (i.Except h) = ended_otherwise p w (slot f h) r.NotFailed
state_remedy p w f _ = r.CloseBeforeJoin

-- ---- Structure

-- a scope is closed that isn't the innermost entry
abbrev pub close_remedy : List Entry → Remedy
close_remedy (entry.Binding k v ∷ es) = r.BoundLater
close_remedy _ = r.OpenedLater

-- a binding is ended that isn't the innermost entry
abbrev pub unbind_remedy : List Entry → Remedy
unbind_remedy [] = r.NothingBound
unbind_remedy (e ∷ es) = r.OpenedInBinding

abbrev pub order_remedy : Frame → Instr → Remedy
order_remedy f (i.Fork x g h) = r.ForkAfterBind
order_remedy f (i.Close x) = close_remedy f.entries
order_remedy f i.Unbind = unbind_remedy f.entries
order_remedy f _ = r.StillOpen

-- ---- all faults

abbrev pub remedy_at : Program → World → Frame → Instr → Fault → Remedy
remedy_at p w f instr fault.Operand = operand_remedy p w f instr
remedy_at p w f instr fault.WrongThread = r.ParentScope
remedy_at p w f instr fault.IllegalState = state_remedy p w f instr
remedy_at p w f instr fault.Structure = order_remedy f instr
remedy_at p w f instr fault.Unbound = r.KeyUnboundNow

-- at the instruction of a frame, or at the end of its function
abbrev pub frame_remedy : Program → World → Frame → Option Instr → Fault → Remedy
frame_remedy p w f None kind = r.RunsPastEnd
frame_remedy p w f (Some instr) kind = remedy_at p w f instr kind

-- what to do about a fault of a task
abbrev pub remedy : Program → World → ℕ → Fault → Remedy
remedy p w t kind =
    frame_remedy p w (task_at w t).frame (instr_at p (task_at w t).frame) kind
