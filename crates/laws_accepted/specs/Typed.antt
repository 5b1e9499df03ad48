-- A living task is typed: its frame fits a typestate that is reached at its pc (this project's
-- own).
use Rattle.std.specs.Prelude.{◌≡◌, ℕ, ◌<◌, List, [], ◌∷◌, length, map, Bool, true, false, Option}
use Rattle.std.specs.Prelude.{Some, is_some, ◌==◌, ◌||◌, not}
use Rattle.std.specs.List.{list_any}
use Rattle.sts_code.specs.Program.{Program}
use Rattle.sts_code.specs.declared.instr.Instr.{Instr}
use Rattle.sts_code.specs.declared.instr.Instr.TheVariants.{Open, Fork, Close}
use Rattle.sts_model.specs.declared.event.Event.{Event}
use Rattle.sts_model.specs.declared.event.End.{End}
use Rattle.sts_model.specs.declared.event.Phase.{Phase}
use Rattle.sts_model.specs.declared.event.Phase.TheVariants as phase
use Rattle.sts_model.specs.declared.record.Bound.{Bound}
use Rattle.sts_model.specs.declared.record.Entry.{Entry}
use Rattle.sts_model.specs.declared.record.Entry.TheVariants as entry
use Rattle.sts_model.specs.declared.record.Frame.{Frame}
use Rattle.sts_model.specs.declared.record.Loop.{Loop}
use Rattle.sts_model.specs.declared.record.Scope.{Scope}
use Rattle.sts_model.specs.declared.record.Slot.{Slot}
use Rattle.sts_model.specs.declared.record.Slot.TheVariants.{Empty, Own, Lent, Sub}
use Rattle.sts_rules.specs.declared.typing.Known.{Known}
use Rattle.sts_rules.specs.declared.typing.Known.TheVariants as known
use Rattle.sts_rules.specs.declared.typing.SlotKind.{SlotKind}
use Rattle.sts_rules.specs.declared.typing.SlotKind.TheVariants as kind_of
use Rattle.sts_rules.specs.declared.typing.TypedPhase.{TypedPhase}
use Rattle.sts_rules.specs.declared.typing.TypedPhase.TheVariants.{Opened, Attempted, Joined, Late}
use Rattle.sts_rules.specs.declared.typing.TypedScope.{TypedScope}
use Rattle.sts_rules.specs.declared.typing.TypedEntry.{TypedEntry}
use Rattle.sts_rules.specs.declared.typing.TypedEntry.TheVariants as typed
use Rattle.sts_model.specs.Standing.{standing_tasks, standing_scopes}
use Rattle.sts_model.specs.World.{World, task_at, scope_at, instr_at}
use Rattle.sts_model.specs.Living.{lives, parent, sub_state}
use Rattle.sts_model.specs.Environment.{read}
use Rattle.sts_model.specs.Misuse.{slot, at_own, has_succeeded, has_failed, is_crowded, IsFine}
use Rattle.sts_rules.specs.TypeState.{TypeState, kind, heads}
use Rattle.sts_rules.specs.Causes.{needs, binds, is_scope_in}
use Rattle.sts_rules.specs.Flow.{Reaches}
use Rattle.sts_rules.specs.Edges.{typing}
use Rattle.sts_model.specs.Run.{after}
use Rattle.laws_runs.specs.Runs.{In, Ever}

-- ---- scopes

-- is it the `close` of the scope in this slot?
abbrev pub closes : Option Instr → ℕ → Bool
closes (Some (Close x)) y = x == y
closes _ y = false

-- does the phase of a scope fit its typed one? Once its close has begun, it fits if its owner is at
-- that `close`
abbrev pub fits_phase : (closing : Bool) → TypedPhase → Phase → (expired : Bool) → Bool
fits_phase closing Opened phase.Opened expired = true
fits_phase closing Attempted phase.Attempted expired = true
fits_phase closing Joined phase.Joined expired = not expired
fits_phase closing Late phase.Joined expired = expired
fits_phase closing _ phase.Closing expired = closing
fits_phase closing _ _ expired = false

pub record FitsScope (closing : Bool) (scope : Scope) (r : TypedScope) : Type 0 where
  pub joiner : scope.joiner ≡ r.joiner
  pub timed : scope.timed ≡ r.timed
  pub phase : fits_phase closing r.phase scope.phase scope.expired ≡ true

-- ---- keys

-- is the key bound for certain in function f, after these entries are taken off?
abbrev pub is_due : Program → ℕ → List TypedEntry → ℕ → Bool
is_due p f es k = list_any (binds k) es || needs p f k

-- each such key is bound
abbrev pub Covers : Program → ℕ → List TypedEntry → List Bound → Type 0
Covers p f es environment =
    (k : ℕ) → k < 16 → is_due p f es k ≡ true → is_some (read environment k) ≡ true

-- ---- the structure list

-- An open scope n fits its entry. Its slot owns it. It keeps the bindings from when it was opened.
-- No older entry is a scope of the same slot.
pub record FitsOpen (p : Program) (w : World) (f : Frame) (n : ℕ) (r : TypedScope)
    (behind : List TypedEntry) : Type 0 where
  pub own : slot f r.slot ≡ Own n
  pub scope : FitsScope (closes (instr_at p f) r.slot) (scope_at w n) r
  pub covers : Covers p f.function behind (scope_at w n).environment
  pub single : list_any (is_scope_in r.slot) behind ≡ false

abbrev pub FitsEntry : Program → World → Frame → Entry → TypedEntry → List TypedEntry → Type 0
FitsEntry p w f (entry.Binding k v) (typed.Binding j) behind = k ≡ j
FitsEntry p w f (entry.Scope n) (typed.Scope r) behind = FitsOpen p w f n r behind
FitsEntry p w f _ _ behind = ⊥

-- R holds for each pair of entries and the older typed entries
abbrev pub Zips : (Entry → TypedEntry → List TypedEntry → Type 0) → List Entry → List TypedEntry
    → Type 0
Zips R [] [] = Unit {0}
Zips R (e ∷ es) (r ∷ rs) = R e r rs × Zips R es rs
Zips R _ _ = ⊥

-- ---- slots

-- does the state of a subtask fit what is known of it?
abbrev pub is_known : Known → Option End → Bool
is_known known.Unknown state = true
is_known known.Success state = has_succeeded state
is_known known.Failed state = has_failed state

-- task u is a subtask of the scope in slot y
pub record FitsSub (w : World) (f : Frame) (u y : ℕ) (state : Known) : Type 0 where
  pub scope : ℕ
  pub own : slot f y ≡ Own scope
  pub inside : (task_at w u).scope ≡ Some scope
  pub known : is_known state (sub_state w u) ≡ true

abbrev pub FitsSlot : World → Frame → Slot → SlotKind → Type 0
FitsSlot w f Empty kind_of.Empty = Unit {0}
FitsSlot w f (Own n) kind_of.Own = Unit {0}
FitsSlot w f (Lent n) kind_of.Lent = Unit {0}
FitsSlot w f (Sub u) (kind_of.Sub y state) = FitsSub w f u y state
FitsSlot w f _ _ = ⊥

-- ---- frames

-- the frame is as the typestate says
pub record Fits (p : Program) (w : World) (f : Frame) (s : TypeState) : Type 0 where
  pub height : length f.operands ≡ s.height
  pub loops : map (λ (l : Loop). l.at) f.loops ≡ heads s.loops
  pub entries : Zips (FitsEntry p w f) f.entries s.entries
  pub slots : (x : ℕ) → FitsSlot w f (slot f x) (kind s x)
  -- no scope is owned in two slots; there are 16
  pub apart : (x y n : ℕ) → slot f x ≡ Own n → slot f y ≡ Own n → x ≡ y
  pub wide : length f.slots ≡ 16
  pub typed_wide : length s.slots ≡ 16

-- the frame of a subtask of the scope o fits a typestate that is reached at its pc, and the needs
-- of its function are bound
pub record IsTyped (p : Program) (w : World) (f : Frame) (o : Option ℕ) : Type 0 where
  pub function : f.function < length p.routines
  pub state : TypeState
  pub reached : Reaches (typing p f.function) f.pc state
  pub fits : Fits p w f state
  pub bound : Covers p f.function [] (parent w o).environment

abbrev pub AllTyped : Program → World → Type 0
AllTyped p w =
    (t : ℕ) → lives (task_at w t) ≡ true → IsTyped p w (task_at w t).frame (task_at w t).scope

-- ---- room

-- does the next instruction of the frame break a limit? It makes a scope, or a task in a scope of
-- its own, and too many count or were born
abbrev pub crowds : World → Frame → Option Instr → Bool
crowds w f (Some (Open x timed joiner)) = is_crowded (standing_scopes w) (length w.scopes)
crowds w f (Some (Fork x g h)) =
    at_own w (slot f x) (λ s scope. is_crowded (standing_tasks w) (length w.tasks))
crowds w f _ = false

abbrev pub is_crowding : Program → World → ℕ → Bool
is_crowding p w t = crowds w (task_at w t).frame (instr_at p (task_at w t).frame)

-- ---- timeouts

-- only a scope with a timeout expires
abbrev pub IsTimely : Scope → Type 0
IsTimely scope = scope.expired ≡ true → scope.timed ≡ true

-- in every state of every run of every program
abbrev pub ExpiredIsTimed : Type 0
ExpiredIsTimed = Ever (λ p w. (s : ℕ) → IsTimely (scope_at w s))

-- ---- the laws

-- in every state of every run of the program each living task is typed
abbrev pub LivingTasksAreTyped : Program → Type 0
LivingTasksAreTyped p = (events : List Event) → In (AllTyped p) (after p events)

-- the task is at an instruction, and no row of misuse applies to it
pub record IsFineAt (p : Program) (w : World) (t : ℕ) : Type 0 where
  pub instr : Instr
  pub at : instr_at p (task_at w t).frame ≡ Some instr
  pub fine : IsFine p w t (task_at w t).frame instr

-- a living task misuses nothing, unless there is no room for what it makes
abbrev pub WantsRoomAlone : Program → World → Type 0
WantsRoomAlone p w =
    (t : ℕ) → lives (task_at w t) ≡ true → is_crowding p w t ≡ false → IsFineAt p w t

-- so in every state of every run of the program
abbrev pub OnlyRoomIsWanted : Program → Type 0
OnlyRoomIsWanted p = (events : List Event) → In (WantsRoomAlone p) (after p events)
