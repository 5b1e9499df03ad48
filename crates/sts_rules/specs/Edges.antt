-- The places that an instruction leads to, with the typestates there, or the lowest-numbered cause
-- that holds at it (this project's own).
use Rattle.std.specs.Prelude.{ℕ, ◌+◌, ◌-◌, List, [], ◌∷◌, ◌++◌, length, drop, map, Bool, true}
use Rattle.std.specs.Prelude.{false, Option, Some, None, Result, Ok, Err, ◌==◌, if◌then◌else◌}
use Rattle.std.specs.Prelude.{option_map, slice_set, slice_get}
use Rattle.sts_code.specs.Program.{Program, routine, instr_at}
use Rattle.sts_code.specs.declared.instr.Instr.{Instr}
use Rattle.sts_code.specs.declared.instr.Instr.TheVariants.{Div, Jmp, Jz, Times, Next, Open, Fork}
use Rattle.sts_code.specs.declared.instr.Instr.TheVariants.{Join, Close, Case, Forget, Bind, Unbind}
use Rattle.sts_code.specs.declared.instr.Instr.TheVariants.{Ret, Fail}
use Rattle.sts_code.specs.declared.instr.Joiner.{Joiner}
use Rattle.sts_code.specs.declared.instr.Joiner.TheVariants.{AllSucceed, AnySucceeds, AwaitOk}
use Rattle.sts_code.specs.declared.instr.Joiner.TheVariants.{AwaitAll, Until}
use Rattle.sts_rules.specs.declared.typing.Cause.{Cause}
use Rattle.sts_rules.specs.declared.typing.Cause.TheVariants.{StatesDiffer, DeadCode}
use Rattle.sts_rules.specs.declared.typing.Known.{Known}
use Rattle.sts_rules.specs.declared.typing.Known.TheVariants.{Unknown, Success, Failed}
use Rattle.sts_rules.specs.declared.typing.SlotKind.{SlotKind}
use Rattle.sts_rules.specs.declared.typing.SlotKind.TheVariants.{Empty, Own, Sub}
use Rattle.sts_rules.specs.declared.typing.TypedPhase.{TypedPhase}
use Rattle.sts_rules.specs.declared.typing.TypedPhase.TheVariants.{Opened, Attempted, Joined, Late}
use Rattle.sts_rules.specs.declared.typing.TypedScope.{TypedScope}
use Rattle.sts_rules.specs.declared.typing.TypedEntry.{TypedEntry}
use Rattle.sts_rules.specs.declared.typing.TypedEntry.TheVariants.{Scope, Binding}
use Rattle.sts_code.specs.Facts.{pops, pushes}
use Rattle.sts_rules.specs.TypeState.{TypeState, entry, kind, scope_in}
use Rattle.sts_rules.specs.Around.{skipped_to}
use Rattle.sts_rules.specs.Causes.{least_cause}
use Rattle.sts_rules.specs.Flow.{Flow}

-- ---- slots

abbrev pub with_slot : Option ℕ → SlotKind → TypeState → TypeState
with_slot None k s = s
with_slot (Some x) k s = record s { slots = slice_set s.slots x k }

-- the subtask in a slot with this known of its state
abbrev pub known_as : Known → SlotKind → SlotKind
known_as state (Sub x before) = Sub x state
known_as state k = k

abbrev pub with_known : ℕ → Known → TypeState → TypeState
with_known h state s = record s { slots = slice_set s.slots h (known_as state (kind s h)) }

-- a subtask of the scope in this slot?
abbrev pub is_sub_of : ℕ → SlotKind → Bool
is_sub_of x (Sub y state) = y == x
is_sub_of x _ = false

-- each subtask of the scope is a success
abbrev pub succeeded : ℕ → List SlotKind → List SlotKind
succeeded x slots = map (λ k. if is_sub_of x k then Sub x Success else k) slots

-- no slot holds the scope or a subtask of it
abbrev pub cleared : ℕ → List SlotKind → List SlotKind
cleared x slots = slice_set (map (λ k. if is_sub_of x k then Empty else k) slots) x Empty

-- ---- `join`

abbrev pub phase_set : ℕ → TypedPhase → TypedEntry → TypedEntry
phase_set x phase (Binding k) = Binding k
phase_set x phase (Scope r) = if r.slot == x then Scope (record r { phase = phase }) else Scope r

-- the scope in this slot is in this phase
abbrev pub with_phase : ℕ → TypedPhase → TypeState → TypeState
with_phase x phase s = record s { entries = map (phase_set x phase) s.entries }

abbrev pub joiner_of : Option TypedScope → Joiner
joiner_of None = AwaitAll
joiner_of (Some scope) = scope.joiner

-- how many operands the ok outcome pushes
abbrev pub ok_pushes : Joiner → ℕ
ok_pushes AllSucceed = 1
ok_pushes AnySucceeds = 1
ok_pushes (Until p) = 1
ok_pushes _ = 0

-- does ok mean that each subtask succeeded?
abbrev pub is_all_success : Joiner → Bool
is_all_success AllSucceed = true
is_all_success AwaitOk = true
is_all_success _ = false

abbrev pub raised : ℕ → TypeState → TypeState
raised n s = record s { height = s.height + n }

abbrev pub after_ok : ℕ → Joiner → TypeState → TypeState
after_ok x j s =
    record (raised (ok_pushes j) (with_phase x Joined s)) {
      slots = if is_all_success j
          then succeeded x s.slots else s.slots;
    }

-- to a target that may be left out
abbrev pub to_optional : Option ℕ → TypeState → List (ℕ × TypeState)
to_optional None s = []
to_optional (Some to) s = (to, s) ∷ []

abbrev pub join_follows : ℕ → ℕ → Option ℕ → Option ℕ → ℕ → TypeState → List (ℕ × TypeState)
join_follows pc x failed timeout interrupted s =
    (pc + 1, after_ok x (joiner_of (scope_in s.entries x)) s)
    ∷ to_optional failed (raised 1 (with_phase x Joined s))
    ++ to_optional timeout (with_phase x Late s)
    ++ (interrupted, with_phase x Attempted s) ∷ []

-- ---- all instructions

-- the typestate with the operands popped and pushed
abbrev pub moved : Program → Instr → TypeState → TypeState
moved p i s = record s { height = s.height - pops p i + pushes i }

-- the following places and typestates, if no cause holds
abbrev pub follows : Program → List Instr → ℕ → Instr → TypeState → List (ℕ × TypeState)
follows p code pc (Div to) s =
    (pc + 1, record s { height = s.height - 1 }) ∷ (to, record s { height = s.height - 2 }) ∷ []
follows p code pc (Jmp to) s = (to, s) ∷ []
follows p code pc (Jz to) s = (pc + 1, moved p (Jz to) s) ∷ (to, moved p (Jz to) s) ∷ []
follows p code pc (Times n) s = (
  pc + 1,
  record
      (moved p (Times n) s) { loops = record { at = pc; entries = length s.entries } ∷ s.loops },
)
    ∷ map (λ to. (to, moved p (Times n) s)) (skipped_to code pc (Times n))
follows p code pc Next s = (pc + 1, record s { loops = drop 1 s.loops }) ∷ []
follows p code pc (Open x timed j) s = (
  pc + 1,
  record s {
    entries = Scope
        (record { slot = x; joiner = j; timed = timed; phase = Opened }) ∷ s.entries;
    slots = slice_set s.slots x Own;
  },
)
    ∷ []
follows p code pc (Fork x g h) s =
    (pc + 1, with_slot h (Sub x Unknown) (moved p (Fork x g h) s)) ∷ []
follows p code pc (Join x failed timeout interrupted) s =
    join_follows pc x failed timeout interrupted s
follows p code pc (Close x) s =
    (pc + 1, record s { entries = drop 1 s.entries; slots = cleared x s.slots }) ∷ []
follows p code pc (Case h success failed) s =
    (pc + 1, with_known h Unknown s) ∷ (success, with_known h Success s) ∷
    (failed, with_known h Failed s) ∷ []
follows p code pc (Forget h) s = (pc + 1, with_slot (Some h) Empty s) ∷ []
follows p code pc (Bind k) s =
    (pc + 1, record (moved p (Bind k) s) { entries = Binding k ∷ s.entries }) ∷ []
follows p code pc Unbind s = (pc + 1, record s { entries = drop 1 s.entries }) ∷ []
follows p code pc Ret s = []
follows p code pc Fail s = []
follows p code pc i s = (pc + 1, moved p i s) ∷ []

abbrev pub or_cause : Option Cause → List (ℕ × TypeState) → Result (List (ℕ × TypeState)) Cause
or_cause None out = Ok out
or_cause (Some c) out = Err c

-- the edges of the instruction at a place of a function, or the lowest-numbered cause that holds
-- there
abbrev pub edges_of : Program → ℕ → ℕ → Instr → TypeState → Result (List (ℕ × TypeState)) Cause
edges_of p f pc i s = or_cause (least_cause p f pc i s) (follows p (routine p f).code pc i s)

abbrev pub edges : Program → ℕ → ℕ → TypeState → Result (List (ℕ × TypeState)) Cause
edges p f pc s = edges_of p f pc (instr_at (routine p f).code pc) s

-- the place after the `times` to which a `next` goes back
abbrev pub back_of : Instr → TypeState → Option ℕ
back_of Next s = option_map (λ l. l.at + 1) (slice_get s.loops 0)
back_of _ s = None

-- the typestates of a function, from its entry along the edges
abbrev pub typing : Program → ℕ → Flow TypeState Cause
typing p f =
    record {
      edges = edges p f;
      back = λ pc s. back_of (instr_at (routine p f).code pc) s;
      entry = entry p f;
      dead = DeadCode;
      differ = StatesDiffer;
    }
