-- The causes of a refusal that one instruction and one typestate decide, each a test (this
-- project's own).
use Rattle.std.specs.Prelude.{ℕ, ◌+◌, ◌-◌, List, [], ◌∷◌, ◌++◌, length, Bool, true, false, Option}
use Rattle.std.specs.Prelude.{Some, None, is_some, is_none, nat_lt, nat_le, ◌==◌, ◌&&◌, ◌||◌, not}
use Rattle.std.specs.Prelude.{if◌then◌else◌, slice_index_or, find, bytes_eq}
use Rattle.std.specs.List.{list_any, range_with_len}
use Rattle.sts_code.specs.Program.{Program, routine}
use Rattle.sts_code.specs.declared.limits.TheConstants.{MAX_ENTRIES, MAX_LOOPS, MAX_OPERANDS}
use Rattle.sts_code.specs.declared.instr.Instr.{Instr}
use Rattle.sts_code.specs.declared.instr.Instr.TheVariants.{Times, Next, Open, Fork, Join, Close}
use Rattle.sts_code.specs.declared.instr.Instr.TheVariants.{Cancelled, Get, Except, Tally, Total}
use Rattle.sts_code.specs.declared.instr.Instr.TheVariants.{Bind, Unbind, Read, Ret, Fail}
use Rattle.sts_code.specs.declared.profile.Profile.{Profile}
use Rattle.sts_rules.specs.declared.typing.Cause.{Cause}
use Rattle.sts_rules.specs.declared.typing.Cause.TheVariants as cause
use Rattle.sts_rules.specs.declared.typing.Known.{Known}
use Rattle.sts_rules.specs.declared.typing.Known.TheVariants as known
use Rattle.sts_rules.specs.declared.typing.SlotKind.{SlotKind}
use Rattle.sts_rules.specs.declared.typing.SlotKind.TheVariants.{Empty, Own, Lent, Sub}
use Rattle.sts_rules.specs.declared.typing.TypedPhase.{TypedPhase}
use Rattle.sts_rules.specs.declared.typing.TypedPhase.TheVariants.{Opened, Attempted, Joined, Late}
use Rattle.sts_rules.specs.declared.typing.TypedScope.{TypedScope}
use Rattle.sts_rules.specs.declared.typing.TypedEntry.{TypedEntry}
use Rattle.sts_rules.specs.declared.typing.TypedEntry.TheVariants.{Scope, Binding}
use Rattle.sts_rules.specs.declared.typing.TypedLoop.{TypedLoop}
use Rattle.sts_code.specs.Loops.{match_of, is_at}
use Rattle.sts_code.specs.Facts.{pops, pushes, owners_slot, subtask_slot, filled_slot, can_fail}
use Rattle.sts_code.specs.Facts.{is_await_all, same, is_two, targets}
use Rattle.sts_rules.specs.TypeState.{TypeState, kind, scope_in, heads}
use Rattle.sts_rules.specs.Around.{next_place, skipped_to, around, open_after}

-- ---- slots and scopes

abbrev pub is_empty : SlotKind → Bool
is_empty Empty = true
is_empty _ = false

abbrev pub is_own : SlotKind → Bool
is_own Own = true
is_own _ = false

abbrev pub is_lent : SlotKind → Bool
is_lent Lent = true
is_lent _ = false

abbrev pub is_sub : SlotKind → Bool
is_sub (Sub scope state) = true
is_sub _ = false

-- a test of a slot, if there is one
abbrev pub at_slot : TypeState → Option ℕ → (SlotKind → Bool) → Bool
at_slot s None test = false
at_slot s (Some x) test = test (kind s x)

-- a test of the scope in a slot that the task owns, which may be missing in the structure list
abbrev pub at_own : TypeState → ℕ → (Option TypedScope → Bool) → Bool
at_own s x test = is_own (kind s x) && test (scope_in s.entries x)

-- a test of a slot's subtask, by its scope and what is known of its state
abbrev pub at_sub : List TypedEntry → SlotKind → (Option TypedScope → Known → Bool) → Bool
at_sub entries (Sub x state) test = test (scope_in entries x) state
at_sub entries _ test = false

-- a test of a scope, if it is in the structure list
abbrev pub passes : (TypedScope → Bool) → Option TypedScope → Bool
passes test None = false
passes test (Some scope) = test scope

-- ---- V1 to V6

-- V1: fewer operands than popped
abbrev pub lacks_operands : Program → Instr → TypeState → Bool
lacks_operands p i s = nat_lt s.height (pops p i)

-- a `join` with no room for the answer
abbrev pub join_overflows : TypeState → Instr → Bool
join_overflows s (Join x failed timeout interrupted) =
    nat_le MAX_OPERANDS s.height && at_own s x (passes (λ scope. not (is_await_all scope.joiner)))
join_overflows s _ = false

-- V2: more than 32 operands afterwards
abbrev pub overflows : Program → Instr → TypeState → Bool
overflows p i s = nat_lt MAX_OPERANDS (s.height - pops p i + pushes i) || join_overflows s i

-- V3: it leads to the end of the function
abbrev pub falls_off : List Instr → ℕ → Instr → Bool
falls_off code pc i =
    list_any (nat_le (length code)) (targets i ++ next_place pc i ++ skipped_to code pc i)

-- V4: a target that is no later place
abbrev pub jumps_back : ℕ → Instr → Bool
jumps_back pc i = list_any (λ to. nat_le to pc) (targets i)

-- does the innermost of these loops end at pc?
abbrev pub closes_loop : List Instr → ℕ → List TypedLoop → Bool
closes_loop code pc [] = false
closes_loop code pc (l ∷ ls) = is_at (match_of code l.at) pc

-- a `times` without match, or a `next` that isn't the match of the innermost open loop
abbrev pub is_unmatched : List Instr → ℕ → Instr → TypeState → Bool
is_unmatched code pc (Times n) s = is_none (match_of code pc)
is_unmatched code pc Next s = not (closes_loop code pc s.loops)
is_unmatched code pc _ s = false

-- are loops other than these around the place?
abbrev pub is_other_loop : List Instr → List ℕ → ℕ → Bool
is_other_loop code heads to = not (bytes_eq (around code to) heads)

-- V5: such a `times` or `next`, or an instruction that leads to a place with other open loops than
-- those around it
abbrev pub mismatches : List Instr → ℕ → Instr → TypeState → Bool
mismatches code pc i s =
    is_unmatched code pc i s
    || list_any (is_other_loop code (heads s.loops)) (targets i ++ skipped_to code pc i)
    || list_any (is_other_loop code (open_after pc i (heads s.loops))) (next_place pc i)

-- V6: `times` with 8 loops open
abbrev pub is_too_deep : Instr → TypeState → Bool
is_too_deep (Times n) s = nat_le MAX_LOOPS (length s.loops)
is_too_deep _ s = false

-- ---- V9 to V11

-- V9: a slot that doesn't hold the scope or the subtask that the instruction needs
abbrev pub has_wrong_slot : Instr → TypeState → Bool
has_wrong_slot (Cancelled x) s = not (is_own (kind s x) || is_lent (kind s x))
has_wrong_slot i s =
    at_slot s (owners_slot i) (λ k. not (is_own k || is_lent k))
    || at_slot s (subtask_slot i) (λ k. not (is_sub k))

-- V10: a slot to be filled that isn't empty
abbrev pub has_busy_slot : Instr → TypeState → Bool
has_busy_slot i s = at_slot s (filled_slot i) (λ k. not (is_empty k))

-- V11: the scope is lent, but only its owner may do this
abbrev pub is_strangers : Instr → TypeState → Bool
is_strangers i s = at_slot s (owners_slot i) is_lent

-- ---- V12

abbrev pub is_opened_phase : TypedPhase → Bool
is_opened_phase Opened = true
is_opened_phase _ = false

abbrev pub is_opened : TypedScope → Bool
is_opened scope = is_opened_phase scope.phase

-- may `join` be done in this phase? It may be done again after it was interrupted
abbrev pub can_join_phase : TypedPhase → Bool
can_join_phase Attempted = true
can_join_phase phase = is_opened_phase phase

abbrev pub can_join : TypedScope → Bool
can_join scope = can_join_phase scope.phase

-- may the subtasks be read in this phase? After a timeout only in profile two
abbrev pub is_readable_phase : Profile → TypedPhase → Bool
is_readable_phase profile Joined = true
is_readable_phase profile Late = is_two profile
is_readable_phase profile _ = false

abbrev pub is_readable : Profile → TypedScope → Bool
is_readable profile scope = is_readable_phase profile scope.phase

abbrev pub is_known_success : Known → Bool
is_known_success known.Success = true
is_known_success _ = false

abbrev pub is_known_failed : Known → Bool
is_known_failed known.Failed = true
is_known_failed _ = false

-- V12: a scope or subtask that isn't known to be in the state for the instruction
abbrev pub is_illegal : Profile → Instr → TypeState → Bool
is_illegal profile (Fork x g h) s = at_own s x (λ scope. not (passes is_opened scope))
is_illegal profile (Join x failed timeout i) s = at_own s x (λ scope. not (passes can_join scope))
is_illegal profile (Close x) s = at_own s x (passes is_opened)
is_illegal profile (Tally x k) s = at_own s x (λ scope. not (passes (is_readable profile) scope))
is_illegal profile (Total x) s = at_own s x (λ scope. not (passes (is_readable profile) scope))
is_illegal profile (Get h) s =
    at_sub s.entries (kind s h) (λ scope state. not
    (passes (is_readable profile) scope && is_known_success state))
is_illegal profile (Except h) s =
    at_sub s.entries (kind s h) (λ scope state. not
    (passes (is_readable profile) scope && is_known_failed state))
is_illegal profile _ s = false

-- ---- V13 to V16

abbrev pub is_binding : TypedEntry → Bool
is_binding (Binding k) = true
is_binding (Scope r) = false

abbrev pub is_scope_in : ℕ → TypedEntry → Bool
is_scope_in x (Binding k) = false
is_scope_in x (Scope r) = r.slot == x

-- does the innermost entry, if there is one, pass the test?
abbrev pub innermost : (TypedEntry → Bool) → List TypedEntry → Bool
innermost test [] = false
innermost test (e ∷ es) = test e

-- does a binding come after the scope in this slot?
abbrev pub binds_after : ℕ → List TypedEntry → Bool
binds_after x [] = false
binds_after x (Binding k ∷ es) = true
binds_after x (Scope r ∷ es) = if r.slot == x then false else binds_after x es

-- was the innermost entry in the list before an open loop began?
abbrev pub is_held : TypeState → Bool
is_held s = list_any (λ l. nat_le (length s.entries) l.entries) s.loops

-- V13: does the instruction break the order of the structure list? Nor may a loop close or unbind
-- what was made before it
abbrev pub breaks_structure : Instr → TypeState → Bool
breaks_structure (Fork x g h) s = at_own s x (λ _. binds_after x s.entries)
breaks_structure (Close x) s =
    at_own s x (λ _. not (innermost (is_scope_in x) s.entries) || is_held s)
breaks_structure Unbind s = not (innermost is_binding s.entries) || is_held s
breaks_structure Ret s = nat_lt 0 (length s.entries)
breaks_structure Fail s = nat_lt 0 (length s.entries)
breaks_structure _ s = false

-- V14: `open`, `bind` with 16 entries in the structure list
abbrev pub is_nested : Instr → TypeState → Bool
is_nested (Open x timed j) s = nat_le MAX_ENTRIES (length s.entries)
is_nested (Bind k) s = nat_le MAX_ENTRIES (length s.entries)
is_nested _ s = false

abbrev pub needs : Program → ℕ → ℕ → Bool
needs p f k = slice_index_or (routine p f).needs k false

abbrev pub binds : ℕ → TypedEntry → Bool
binds k (Binding j) = j == k
binds k (Scope r) = false

-- is the key bound here for certain?
abbrev pub is_bound : Program → ℕ → TypeState → ℕ → Bool
is_bound p f s k = list_any (binds k) s.entries || needs p f k

-- V15: `read` of a key, or `fork` of a function that needs a key, which may be unbound
abbrev pub is_unbound : Program → ℕ → Instr → TypeState → Bool
is_unbound p f (Read k) s = not (is_bound p f s k)
is_unbound p f (Fork x g h) s =
    list_any (λ k. needs p g k && not (is_bound p f s k)) (range_with_len 0 16)
is_unbound p f _ s = false

-- V16: targets of `join` that don't fit the scope
abbrev pub misjoins : Instr → TypeState → Bool
misjoins (Join x failed timeout interrupted) s =
    at_own s x (passes (λ scope. not (same (is_some failed) (can_fail scope.joiner))
    || not (same (is_some timeout) scope.timed)))
misjoins _ s = false

-- ---- all of them

-- does the cause hold at the instruction at pc of function f, in this typestate?
abbrev pub holds : Program → ℕ → ℕ → Instr → TypeState → Cause → Bool
holds p f pc i s cause.StackUnder = lacks_operands p i s
holds p f pc i s cause.StackOver = overflows p i s
holds p f pc i s cause.FallsOff = falls_off (routine p f).code pc i
holds p f pc i s cause.BackJump = jumps_back pc i
holds p f pc i s cause.LoopMismatch = mismatches (routine p f).code pc i s
holds p f pc i s cause.LoopDepth = is_too_deep i s
holds p f pc i s cause.SlotKind = has_wrong_slot i s
holds p f pc i s cause.SlotBusy = has_busy_slot i s
holds p f pc i s cause.WrongThread = is_strangers i s
holds p f pc i s cause.IllegalState = is_illegal p.profile i s
holds p f pc i s cause.Structure = breaks_structure i s
holds p f pc i s cause.Nesting = is_nested i s
holds p f pc i s cause.Unbound = is_unbound p f i s
holds p f pc i s cause.JoinEdges = misjoins i s
holds p f pc i s _ = false

-- the causes that may hold at an instruction, by rising number
abbrev pub causes : List Cause
causes =
    cause.StackUnder ∷ cause.StackOver ∷ cause.FallsOff ∷ cause.BackJump ∷ cause.LoopMismatch
    ∷ cause.LoopDepth ∷ cause.SlotKind ∷ cause.SlotBusy
    ∷ cause.WrongThread ∷ cause.IllegalState ∷ cause.Structure ∷ cause.Nesting ∷ cause.Unbound
    ∷ cause.JoinEdges ∷ []

-- the lowest-numbered cause that holds, if one does
abbrev pub least_cause : Program → ℕ → ℕ → Instr → TypeState → Option Cause
least_cause p f pc i s = find (holds p f pc i s) causes

-- the number of a cause in what is printed
abbrev pub cause_number : Cause → ℕ
cause_number cause.StackUnder = 1
cause_number cause.StackOver = 2
cause_number cause.FallsOff = 3
cause_number cause.BackJump = 4
cause_number cause.LoopMismatch = 5
cause_number cause.LoopDepth = 6
cause_number cause.StatesDiffer = 7
cause_number cause.DeadCode = 8
cause_number cause.SlotKind = 9
cause_number cause.SlotBusy = 10
cause_number cause.WrongThread = 11
cause_number cause.IllegalState = 12
cause_number cause.Structure = 13
cause_number cause.Nesting = 14
cause_number cause.Unbound = 15
cause_number cause.JoinEdges = 16
cause_number cause.TooManySteps = 17
cause_number cause.TooManyTasks = 18
cause_number cause.TooManyScopes = 19
cause_number cause.TooManyBinds = 20
