-- Misuse: whether the instruction that a task is at may be taken, and if not, which fault it is.
-- Restates the exceptions of `fork`, `join`, `close` and `Subtask.get` in the API documentation
-- (`IllegalStateException`, `WrongThreadException`, `StructureViolationException`) and of
-- `ScopedValue.get` (`NoSuchElementException`). The fault Operand, the limits, the order of the
-- kinds, WrongThread and IllegalState of `tally` and `total`, Structure of `ret` and `fail`, and
-- not reading after a timeout are own.
use Rattle.std.specs.Prelude.{◌≡◌, ℕ, ◌+◌, ◌-◌, List, [], ◌∷◌, length, Bool, true, false, Option}
use Rattle.std.specs.Prelude.{Some, None, is_some, is_none, nat_lt, nat_le, ◌==◌, ◌&&◌, ◌||◌, not}
use Rattle.std.specs.Prelude.{if◌then◌else◌, slice_index_or}
use Rattle.sts_code.specs.Program.{Program}
use Rattle.sts_code.specs.declared.limits.TheConstants.{MAX_BIRTHS, MAX_ENTRIES, MAX_LOOPS}
use Rattle.sts_code.specs.declared.limits.TheConstants.{MAX_OPERANDS, MAX_STANDING}
use Rattle.sts_code.specs.declared.instr.Instr.{Instr}
use Rattle.sts_code.specs.declared.instr.Instr.TheVariants.{Sub, Times, Next, Open, Fork, Join}
use Rattle.sts_code.specs.declared.instr.Instr.TheVariants.{Close, Cancelled, Get, Except, Tally}
use Rattle.sts_code.specs.declared.instr.Instr.TheVariants.{Total, Bind, Unbind, Read, Ret, Fail}
use Rattle.sts_code.specs.declared.profile.Profile.{Profile}
use Rattle.sts_code.specs.declared.instr.Joiner.{Joiner}
use Rattle.sts_code.specs.Facts.{pops, pushes, owners_slot, subtask_slot, filled_slot, can_fail}
use Rattle.sts_code.specs.Facts.{is_await_all, same, is_two}
use Rattle.sts_code.specs.Loops.{match_of, is_at}
use Rattle.sts_model.specs.declared.event.Fault.{Fault}
use Rattle.sts_model.specs.declared.event.Fault.TheVariants.{IllegalState, WrongThread, Structure}
use Rattle.sts_model.specs.declared.event.Fault.TheVariants.{Operand, Unbound}
use Rattle.sts_model.specs.declared.event.End.{End}
use Rattle.sts_model.specs.declared.event.End.TheVariants.{Success, Failed}
use Rattle.sts_model.specs.declared.event.Phase.{Phase}
use Rattle.sts_model.specs.declared.event.Phase.TheVariants.{Opened, Attempted, Joined}
use Rattle.sts_model.specs.declared.record.Slot.{Slot}
use Rattle.sts_model.specs.declared.record.Slot.TheVariants.{Empty, Own, Lent, Sub}
use Rattle.sts_model.specs.declared.record.Entry.{Entry}
use Rattle.sts_model.specs.declared.record.Entry.TheVariants as entry
use Rattle.sts_model.specs.declared.record.Frame.{Frame}
use Rattle.sts_model.specs.declared.record.Loop.{Loop}
use Rattle.sts_model.specs.declared.record.Scope.{Scope}
use Rattle.sts_model.specs.World.{World, code, task_at, scope_at, instr_at}
use Rattle.sts_model.specs.Living.{subtask_count, scope_of, sub_state}
use Rattle.sts_model.specs.Environment.{environment_of, read}
use Rattle.sts_model.specs.Standing.{standing_tasks, standing_scopes}

-- ---- operands

-- fewer operands than popped
abbrev pub lacks_operands : Program → Frame → Instr → Bool
lacks_operands p f i = nat_lt (length f.operands) (pops p i)

-- more than 32 operands afterwards
abbrev pub overflows : Program → Frame → Instr → Bool
overflows p f i = nat_lt MAX_OPERANDS (length f.operands - pops p i + pushes i)

-- is pc the match of the innermost open loop?
abbrev pub closes_loop : List Instr → ℕ → List Loop → Bool
closes_loop is pc [] = false
closes_loop is pc (l ∷ ls) = is_at (match_of is l.at) pc

-- a `times` without match or with 8 loops open; a `next` that isn't the match of the innermost open
-- loop
abbrev pub breaks_loop : Program → Frame → Instr → Bool
breaks_loop p f (Times n) = is_none (match_of (code p f) f.pc) || nat_le MAX_LOOPS (length f.loops)
breaks_loop p f Next = not (closes_loop (code p f) f.pc f.loops)
breaks_loop p f _ = false

-- ---- slots

-- what a slot holds
abbrev pub slot : Frame → ℕ → Slot
slot f x = slice_index_or f.slots x Empty

abbrev pub is_empty : Slot → Bool
is_empty Empty = true
is_empty _ = false

abbrev pub is_scope : Slot → Bool
is_scope (Own s) = true
is_scope (Lent s) = true
is_scope _ = false

abbrev pub is_lent : Slot → Bool
is_lent (Lent s) = true
is_lent _ = false

abbrev pub is_sub : Slot → Bool
is_sub (Sub t) = true
is_sub _ = false

-- a test of a slot, if there is one
abbrev pub at_slot : Frame → Option ℕ → (Slot → Bool) → Bool
at_slot f None test = false
at_slot f (Some x) test = test (slot f x)

-- a slot that does not hold the scope or subtask that the instruction needs, or is not empty
-- although the instruction fills it
abbrev pub has_wrong_slot : Frame → Instr → Bool
has_wrong_slot f (Cancelled s) = not (is_scope (slot f s))
has_wrong_slot f i =
    at_slot f (owners_slot i) (λ x. not (is_scope x))
    || at_slot f (subtask_slot i) (λ x. not (is_sub x))
    || at_slot f (filled_slot i) (λ x. not (is_empty x))

-- only the owner may: the scope is lent
abbrev pub is_strangers : Frame → Instr → Bool
is_strangers f i = at_slot f (owners_slot i) is_lent

-- ---- scopes

-- a test of the scope that a slot owns, if it owns one
abbrev pub at_own : World → Slot → (ℕ → Scope → Bool) → Bool
at_own w (Own s) test = test s (scope_at w s)
at_own w _ test = false

-- a test of the subtask that a slot names, with the scope it is of
abbrev pub at_sub : World → Slot → (ℕ → Scope → Bool) → Bool
at_sub w (Sub t) test = test t (scope_of w t)
at_sub w _ test = false

-- a `join` with no room for the answer, or with targets that don't fit a scope with this joiner,
-- which may have a timeout
abbrev pub misfits : Frame → Option ℕ → Option ℕ → Joiner → Bool → Bool
misfits f failed timeout joiner timed =
    (nat_le MAX_OPERANDS (length f.operands) && not (is_await_all joiner))
    || not (same (is_some failed) (can_fail joiner)) || not (same (is_some timeout) timed)

abbrev pub joins_wrongly : Frame → Option ℕ → Option ℕ → Scope → Bool
joins_wrongly f failed timeout scope = misfits f failed timeout scope.joiner scope.timed

-- a `join` in a form that does not fit its scope
abbrev pub misjoins : World → Frame → Instr → Bool
misjoins w f (Join s failed timeout interrupted) =
    at_own w (slot f s) (λ _ scope. joins_wrongly f failed timeout scope)
misjoins w f _ = false

-- do 65,536 count now, or were 1,000,000 born?
abbrev pub is_crowded : ℕ → ℕ → Bool
is_crowded standing born = nat_le MAX_STANDING standing || nat_le MAX_BIRTHS born

-- no room for an entry, a scope or a task
abbrev pub has_no_room : World → Frame → Instr → Bool
has_no_room w f (Open s timed j) =
    nat_le MAX_ENTRIES (length f.entries) || is_crowded (standing_scopes w) (length w.scopes)
has_no_room w f (Bind k) = nat_le MAX_ENTRIES (length f.entries)
has_no_room w f (Fork s g h) = is_crowded (standing_tasks w) (length w.tasks)
has_no_room w f _ = false

abbrev pub is_opened : Phase → Bool
is_opened Opened = true
is_opened _ = false

-- may `join` be done in this phase? It may be done again after it was interrupted
abbrev pub can_join : Phase → Bool
can_join Attempted = true
can_join phase = is_opened phase

abbrev pub is_joined : Phase → Bool
is_joined Joined = true
is_joined _ = false

abbrev pub has_succeeded : Option End → Bool
has_succeeded None = false
has_succeeded (Some (Success v)) = true
has_succeeded (Some (Failed c)) = false

abbrev pub has_failed : Option End → Bool
has_failed None = false
has_failed (Some (Success v)) = false
has_failed (Some (Failed c)) = true

-- may the scope's subtasks be read? After a timeout only in profile two
abbrev pub is_readable : Profile → Scope → Bool
is_readable profile scope = is_joined scope.phase && (is_two profile || not scope.expired)

-- is the scope or subtask not in the state for it?
abbrev pub is_illegal : Program → World → Frame → Instr → Bool
is_illegal p w f (Fork s g h) = at_own w (slot f s) (λ _ scope. not (is_opened scope.phase))
is_illegal p w f (Join s failed timeout i) =
    at_own w (slot f s) (λ _ scope. not (can_join scope.phase))
is_illegal p w f (Close s) =
    at_own w (slot f s) (λ n scope. is_opened scope.phase && nat_lt 0 (subtask_count w n))
is_illegal p w f (Tally s k) = at_own w (slot f s) (λ _ scope. not (is_readable p.profile scope))
is_illegal p w f (Total s) = at_own w (slot f s) (λ _ scope. not (is_readable p.profile scope))
is_illegal p w f (Get h) =
    at_sub w (slot f h) (λ t scope. not (is_readable p.profile scope && has_succeeded (sub_state w t)))
is_illegal p w f (Except h) =
    at_sub w (slot f h) (λ t scope. not (is_readable p.profile scope && has_failed (sub_state w t)))
is_illegal p w f _ = false

-- ---- the structure list

abbrev pub is_binding : Entry → Bool
is_binding (entry.Binding k v) = true
is_binding (entry.Scope s) = false

abbrev pub is_entry_of : ℕ → Entry → Bool
is_entry_of s (entry.Binding k v) = false
is_entry_of s (entry.Scope r) = r == s

-- does the innermost entry, if there is one, pass the test?
abbrev pub innermost : (Entry → Bool) → List Entry → Bool
innermost test [] = false
innermost test (e ∷ es) = test e

-- does a binding come after the scope, innermost first?
abbrev pub binds_after : ℕ → List Entry → Bool
binds_after s [] = false
binds_after s (entry.Binding k v ∷ es) = true
binds_after s (entry.Scope r ∷ es) = if r == s then false else binds_after s es

-- does the instruction break the order of the structure list?
abbrev pub breaks_structure : World → Frame → Instr → Bool
breaks_structure w f (Fork s g h) = at_own w (slot f s) (λ n _. binds_after n f.entries)
breaks_structure w f (Close s) =
    at_own w (slot f s) (λ n _. not (innermost (is_entry_of n) f.entries))
breaks_structure w f Unbind = not (innermost is_binding f.entries)
breaks_structure w f Ret = nat_lt 0 (length f.entries)
breaks_structure w f Fail = nat_lt 0 (length f.entries)
breaks_structure w f _ = false

-- ---- all of it

-- a key that is not bound
abbrev pub is_unbound : World → ℕ → Instr → Bool
is_unbound w t (Read k) = is_none (read (environment_of (task_at w t) w) k)
is_unbound w t _ = false

-- any row of the kind Operand
abbrev pub misuses_operand : Program → World → Frame → Instr → Bool
misuses_operand p w f i =
    lacks_operands p f i || overflows p f i || breaks_loop p f i || has_wrong_slot f i
    || misjoins w f i || has_no_room w f i

-- the fault of an instruction, the first kind that applies
abbrev pub fault_of : Program → World → ℕ → Frame → Instr → Option Fault
fault_of p w t f i =
    if misuses_operand p w f i then Some Operand
    else (if is_strangers f i then Some WrongThread
    else (if is_illegal p w f i then Some IllegalState
    else (if breaks_structure w f i then Some Structure
    else (if is_unbound w t i then Some Unbound else None))))

-- like `fault_of`; at the end of the function, where there is no instruction, it is Operand
abbrev pub fault_at : Program → World → ℕ → Frame → Option Instr → Option Fault
fault_at p w t f None = Some Operand
fault_at p w t f (Some i) = fault_of p w t f i

-- the fault of a step of this task, or none if the step may be taken
abbrev pub misuse : Program → World → ℕ → Option Fault
misuse p w t = let f = (task_at w t).frame in fault_at p w t f (instr_at p f)

-- no row of misuse applies to the instruction
pub record IsFine (p : Program) (w : World) (t : ℕ) (f : Frame) (i : Instr) : Type 0 where
  pub operands : lacks_operands p f i ≡ false
  pub room : overflows p f i ≡ false
  pub loops : breaks_loop p f i ≡ false
  pub slots : has_wrong_slot f i ≡ false
  pub joins : misjoins w f i ≡ false
  pub births : has_no_room w f i ≡ false
  pub own : is_strangers f i ≡ false
  pub legal : is_illegal p w f i ≡ false
  pub structure : breaks_structure w f i ≡ false
  pub bound : is_unbound w t i ≡ false
