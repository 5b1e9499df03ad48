-- What to do about each cause of a refusal. It depends on the instruction, and on what is known of
-- the task there (this project's own).
use Rattle.std.specs.Prelude.{◌≡◌, ℕ, List, [], ◌∷◌, Bool, Option, Some, None, is_some}
use Rattle.std.specs.Prelude.{if◌then◌else◌}
use Rattle.sts_code.specs.Program.{Program, routine, instr_at}
use Rattle.sts_code.specs.Facts.{owners_slot, subtask_slot, can_fail, same}
use Rattle.sts_code.specs.declared.profile.Profile.{Profile}
use Rattle.sts_code.specs.declared.instr.Instr.{Instr}
use Rattle.sts_code.specs.declared.instr.Instr.TheVariants as i
use Rattle.sts_rules.specs.Causes.{is_unmatched, is_readable, passes, innermost, is_scope_in}
use Rattle.sts_rules.specs.Causes.{is_binding}
use Rattle.sts_rules.specs.Edges.{typing}
use Rattle.sts_rules.specs.Flow.{Reaches}
use Rattle.sts_rules.specs.TypeState.{TypeState, kind, scope_in}
use Rattle.sts_rules.specs.declared.typing.Cause.{Cause}
use Rattle.sts_rules.specs.declared.typing.Cause.TheVariants as cause
use Rattle.sts_rules.specs.declared.typing.SlotKind.{SlotKind}
use Rattle.sts_rules.specs.declared.typing.SlotKind.TheVariants as kind
use Rattle.sts_rules.specs.declared.typing.TypedEntry.{TypedEntry}
use Rattle.sts_rules.specs.declared.typing.TypedEntry.TheVariants.{Binding}
use Rattle.sts_rules.specs.declared.typing.TypedPhase.{TypedPhase}
use Rattle.sts_rules.specs.declared.typing.TypedPhase.TheVariants as phase
use Rattle.sts_rules.specs.declared.typing.TypedScope.{TypedScope}
use Rattle.look_refusal.specs.declared.remedy.Remedy.{Remedy}
use Rattle.look_refusal.specs.declared.remedy.Remedy.TheVariants as r

-- ---- V5

-- a `times` without a `next`, or a `next` without a `times`
abbrev pub unmatched_remedy : Instr → Remedy
unmatched_remedy i.Next = r.NextWithoutTimes
unmatched_remedy instr = r.TimesWithoutNext

abbrev pub loop_remedy : List Instr → ℕ → Instr → TypeState → Remedy
loop_remedy code pc instr s =
    if is_unmatched code pc instr s then unmatched_remedy instr else r.LoopCrossed

-- ---- V9 and V10

-- a slot that should hold a scope
abbrev pub no_scope : SlotKind → Remedy
no_scope (kind.Sub x state) = r.HoldsSubtask
no_scope _ = r.NoScope

-- a slot that should hold a subtask
abbrev pub no_subtask : SlotKind → Remedy
no_subtask kind.Own = r.HoldsScope
no_subtask kind.Lent = r.HoldsScope
no_subtask _ = r.NoSubtask

-- by the slots of a scope and of a subtask
abbrev pub held_remedy : TypeState → Option ℕ → Option ℕ → Remedy
held_remedy s (Some x) subtask = no_scope (kind s x)
held_remedy s None (Some h) = no_subtask (kind s h)
held_remedy s None None = r.NoScope

abbrev pub slot_remedy : Instr → TypeState → Remedy
slot_remedy (i.Cancelled x) s = no_scope (kind s x)
slot_remedy instr s = held_remedy s (owners_slot instr) (subtask_slot instr)

-- a slot that should be empty
abbrev pub not_empty : SlotKind → Remedy
not_empty kind.Own = r.FillsScope
not_empty kind.Lent = r.FillsParentScope
not_empty _ = r.FillsSubtask

abbrev pub busy_remedy : Instr → TypeState → Remedy
busy_remedy (i.Open x timed j) s = not_empty (kind s x)
busy_remedy (i.Fork x g (Some h)) s = not_empty (kind s h)
busy_remedy _ s = r.FillsSubtask

-- ---- V12

-- the subtasks of a scope in this phase can't be read
abbrev pub unread_in : TypedPhase → Remedy
unread_in phase.Attempted = r.ReadAfterInterrupt
unread_in phase.Late = r.ReadAfterTimeout
unread_in _ = r.ReadBeforeJoin

abbrev pub unread : Option TypedScope → Remedy
unread None = r.ReadBeforeJoin
unread (Some scope) = unread_in scope.phase

-- the state of a subtask that can be read isn't known
abbrev pub unknown_of : Profile → Option TypedScope → Remedy → Remedy
unknown_of profile scope unknown =
    if passes (is_readable profile) scope then unknown else unread scope

abbrev pub unknown : Profile → TypeState → SlotKind → Remedy → Remedy
unknown profile s (kind.Sub x state) remedy = unknown_of profile (scope_in s.entries x) remedy
unknown profile s _ remedy = remedy

abbrev pub state_remedy : Profile → Instr → TypeState → Remedy
state_remedy profile (i.Fork x g h) s = r.ForkAfterJoin
state_remedy profile (i.Join x failed timeout interrupted) s = r.JoinedAlready
state_remedy profile (i.Tally x state) s = unread (scope_in s.entries x)
state_remedy profile (i.Total x) s = unread (scope_in s.entries x)
state_remedy profile (i.Get h) s = unknown profile s (kind s h) r.NotKnownSuccess
state_remedy profile (i.Except h) s = unknown profile s (kind s h) r.NotKnownFailed
state_remedy profile _ s = r.CloseBeforeJoin

-- ---- V13

-- a scope is closed that isn't the innermost entry
abbrev pub close_remedy : List TypedEntry → Remedy
close_remedy (Binding k ∷ es) = r.BoundLater
close_remedy _ = r.OpenedLater

-- a binding is ended that isn't the innermost entry
abbrev pub unbind_remedy : List TypedEntry → Remedy
unbind_remedy [] = r.NothingBound
unbind_remedy (e ∷ es) = r.OpenedInBinding

abbrev pub order_remedy : Instr → TypeState → Remedy
order_remedy (i.Fork x g h) s = r.ForkAfterBind
order_remedy (i.Close x) s =
    if innermost (is_scope_in x) s.entries then r.OpenedBeforeLoop else close_remedy s.entries
order_remedy i.Unbind s =
    if innermost is_binding s.entries then r.BoundBeforeLoop else unbind_remedy s.entries
order_remedy _ s = r.StillOpen

-- ---- V15 and V16

abbrev pub key_remedy : Instr → Remedy
key_remedy (i.Read k) = r.KeyUnbound
key_remedy _ = r.SubtaskKeyUnbound

-- the labels of a `join` don't fit: it has one for failed or not, for timeout or not, and can fail
-- or not
abbrev pub label_remedy : Bool → Bool → Bool → Remedy
label_remedy failed timeout can =
    if same failed can
    then (if timeout then r.NoTimeoutHere else r.TimeoutLabelMissing)
    else (if failed then r.NoFailureHere else r.FailedLabelMissing)

abbrev pub join_remedy : Bool → Bool → Option TypedScope → Remedy
join_remedy failed timeout None = r.FailedLabelMissing
join_remedy failed timeout (Some scope) = label_remedy failed timeout (can_fail scope.joiner)

abbrev pub edges_remedy : Instr → TypeState → Remedy
edges_remedy (i.Join x failed timeout interrupted) s =
    join_remedy (is_some failed) (is_some timeout) (scope_in s.entries x)
edges_remedy _ s = r.FailedLabelMissing

-- ---- all causes

-- the remedy of a cause with the same remedy everywhere
abbrev pub fixed_remedy : Cause → Option Remedy
fixed_remedy cause.StackUnder = Some r.TooFewOperands
fixed_remedy cause.StackOver = Some r.TooManyOperands
fixed_remedy cause.FallsOff = Some r.RunsPastEnd
fixed_remedy cause.BackJump = Some r.GoesBack
fixed_remedy cause.LoopDepth = Some r.TooManyLoops
fixed_remedy cause.StatesDiffer = Some r.WaysDiffer
fixed_remedy cause.DeadCode = Some r.NeverReached
fixed_remedy cause.WrongThread = Some r.ParentScope
fixed_remedy cause.Nesting = Some r.TooManyOpen
fixed_remedy cause.TooManySteps = Some r.TooManySteps
fixed_remedy cause.TooManyTasks = Some r.TooManyTasks
fixed_remedy cause.TooManyScopes = Some r.TooManyScopes
fixed_remedy cause.TooManyBinds = Some r.TooManyBindings
fixed_remedy _ = None

-- the others, at an instruction in a typestate
abbrev pub typed_remedy : Profile → List Instr → ℕ → Instr → TypeState → Cause → Remedy
typed_remedy profile code pc instr s cause.LoopMismatch = loop_remedy code pc instr s
typed_remedy profile code pc instr s cause.SlotKind = slot_remedy instr s
typed_remedy profile code pc instr s cause.SlotBusy = busy_remedy instr s
typed_remedy profile code pc instr s cause.IllegalState = state_remedy profile instr s
typed_remedy profile code pc instr s cause.Structure = order_remedy instr s
typed_remedy profile code pc instr s cause.Unbound = key_remedy instr
typed_remedy profile code pc instr s _ = edges_remedy instr s

-- in a typestate that reaches the place
abbrev pub remedy_in : Program → ℕ → ℕ → TypeState → Cause → Remedy
remedy_in p f pc s c =
    typed_remedy p.profile (routine p f).code pc (instr_at (routine p f).code pc) s c

-- what to do about a cause at a place
pub data IsRemedy (p : Program) (f pc : ℕ) (c : Cause) : Remedy → Type 0 where
  fixed : (remedy : Remedy) → fixed_remedy c ≡ Some remedy → IsRemedy p f pc c remedy
  typed : (s : TypeState) → fixed_remedy c ≡ None → Reaches (typing p f) pc s
      → IsRemedy p f pc c (remedy_in p f pc s c)
