-- A frame that fits in one world fits in another world that looks the same to it.
use Rattle.std.proofs.Common.{◌≡◌, ℕ, List, Bool, true, false, Option, Some, None, refl, ◌∙◌}
use Rattle.sts_code.specs.Program.{Program}
use Rattle.sts_model.specs.declared.event.End.{End}
use Rattle.sts_model.specs.declared.event.End.TheVariants.{Success, Failed}
use Rattle.sts_model.specs.declared.event.Phase.{Phase}
use Rattle.sts_model.specs.declared.event.Phase.TheVariants as phase
use Rattle.sts_model.specs.declared.record.Entry.{Entry}
use Rattle.sts_model.specs.declared.record.Entry.TheVariants as entry
use Rattle.sts_model.specs.declared.record.Frame.{Frame}
use Rattle.sts_model.specs.declared.record.Scope.{Scope}
use Rattle.sts_model.specs.declared.record.Slot.{Slot}
use Rattle.sts_model.specs.declared.record.Slot.TheVariants.{Own, Sub}
use Rattle.sts_rules.specs.declared.typing.Known.{Known}
use Rattle.sts_rules.specs.declared.typing.Known.TheVariants as known
use Rattle.sts_rules.specs.declared.typing.SlotKind.{SlotKind}
use Rattle.sts_rules.specs.declared.typing.SlotKind.TheVariants as kind_of
use Rattle.sts_rules.specs.declared.typing.TypedPhase.{TypedPhase}
use Rattle.sts_rules.specs.declared.typing.TypedPhase.TheVariants.{Opened, Attempted, Joined, Late}
use Rattle.sts_rules.specs.declared.typing.TypedScope.{TypedScope}
use Rattle.sts_rules.specs.declared.typing.TypedEntry.{TypedEntry}
use Rattle.sts_rules.specs.declared.typing.TypedEntry.TheVariants as typed
use Rattle.sts_model.specs.World.{World, task_at, scope_at, instr_at}
use Rattle.sts_model.specs.Living.{sub_state}
use Rattle.sts_model.specs.Misuse.{slot, can_join}
use Rattle.sts_rules.specs.TypeState.{TypeState, kind}
use Rattle.laws_accepted.specs.Typed.{closes, fits_phase, FitsScope, FitsEntry, FitsSlot, Fits, is_known}
use Rattle.laws_accepted.proofs.Zips.{zips-map}

-- ---- another world

-- what a typestate says of a scope
pub record SameScope (x y : Scope) : Type 0 where
  pub joiner : y.joiner ≡ x.joiner
  pub timed : y.timed ≡ x.timed
  pub environment : y.environment ≡ x.environment
  pub phase : y.phase ≡ x.phase
  pub expired : can_join x.phase ≡ false → y.expired ≡ x.expired

pub samescope-refl : (x : Scope) → SameScope x x
samescope-refl x = record { joiner = refl; timed = refl; environment = refl; phase = refl; expired = λ e. refl }

-- of subtasks no less is known
pub record Knows (w v : World) : Type 0 where
  pub task : (u n : ℕ) → (task_at w u).scope ≡ Some n → (task_at v u).scope ≡ Some n
  pub state : (u : ℕ) (end : End) → sub_state w u ≡ Some end → sub_state v u ≡ Some end

-- and the scopes that the frame owns are the same
pub record Same (w v : World) (f : Frame) : Type 0 where
  pub scope : (x n : ℕ) → slot f x ≡ Own n → SameScope (scope_at w n) (scope_at v n)
  pub knows : Knows w v

phase-same : (b : Bool) (k : TypedPhase) (ph : Phase) (d e : Bool) → (can_join ph ≡ false → e ≡ d) → fits_phase b k ph d ≡ true → fits_phase b k ph e ≡ true
phase-same b Opened phase.Opened d e same h = refl
phase-same b Attempted phase.Attempted d e same h = refl
phase-same b Joined phase.Joined d e same h = rw (same refl) h
phase-same b Late phase.Joined d e same h = rw (same refl) h
phase-same b k phase.Closing d e same h = h
phase-same b k ph d e same h = cc

pub scope-same : (b : Bool) (x y : Scope) (r : TypedScope) → SameScope x y → FitsScope b x r → FitsScope b y r
scope-same b x y r same h =
    record {
      joiner = same.joiner ∙ h.joiner;
      timed = same.timed ∙ h.timed;
      phase = rw (same.phase) (phase-same b r.phase x.phase x.expired y.expired same.expired h.phase);
    }

entry-same : (p : Program) (w v : World) (f : Frame) → Same w v f → (e : Entry) (r : TypedEntry) (behind : List TypedEntry) → FitsEntry p w f e r behind → FitsEntry p v f e r behind
entry-same p w v f same (entry.Scope n) (typed.Scope r) behind h =
    let k = same.scope r.slot n h.own in
    record { own = h.own; scope = scope-same (closes (instr_at p f) r.slot) (scope_at w n) (scope_at v n) r k h.scope; covers = rw (k.environment) h.covers; single = h.single }
entry-same p w v f same e r behind h = h

-- what is known of a state stays known
known-same : (state : Known) (a b : Option End) → ((end : End) → a ≡ Some end → b ≡ Some end) → is_known state a ≡ true → is_known state b ≡ true
known-same known.Unknown a b stays h = refl
known-same known.Success (Some (Success v)) b stays h = rw (stays (Success v) refl) refl
known-same known.Success (Some (Failed c)) b stays h = cc
known-same known.Success None b stays h = cc
known-same known.Failed (Some (Success v)) b stays h = cc
known-same known.Failed (Some (Failed c)) b stays h = rw (stays (Failed c) refl) refl
known-same known.Failed None b stays h = cc

pub slot-same : (w v : World) (f : Frame) → Knows w v → (x : Slot) (k : SlotKind) → FitsSlot w f x k → FitsSlot v f x k
slot-same w v f knows (Sub u) (kind_of.Sub y state) h =
    record { scope = h.scope; own = h.own; inside = knows.task u h.scope h.inside; known = known-same state (sub_state w u) (sub_state v u) (knows.state u) h.known }
slot-same w v f knows x k h = h

pub fits-same : (p : Program) (w v : World) (f : Frame) (s : TypeState) → Same w v f → Fits p w f s → Fits p v f s
fits-same p w v f s same h =
    record {
      height = h.height;
      loops = h.loops;
      entries = zips-map (FitsEntry p w f) (FitsEntry p v f) f.entries s.entries (entry-same p w v f same) h.entries;
      slots = λ x. slot-same w v f same.knows (slot f x) (kind s x) (h.slots x);
      apart = h.apart;
      wide = h.wide;
      typed_wide = h.typed_wide;
    }

-- ---- another frame

-- the frame goes on from an instruction that is no `close`, and owns what it owned
pub record Onward (p : Program) (f g : Frame) : Type 0 where
  pub function : g.function ≡ f.function
  pub own : (x n : ℕ) → slot f x ≡ Own n → slot g x ≡ Own n
  pub still : (x : ℕ) → closes (instr_at p f) x ≡ false

phase-on : (b c : Bool) (k : TypedPhase) (ph : Phase) (e : Bool) → b ≡ false → fits_phase b k ph e ≡ true → fits_phase c k ph e ≡ true
phase-on b c Opened phase.Opened e still h = refl
phase-on b c Attempted phase.Attempted e still h = refl
phase-on b c Joined phase.Joined e still h = h
phase-on b c Late phase.Joined e still h = h
phase-on b c k phase.Closing e still h = cc
phase-on b c k ph e still h = cc

pub scope-on : (b c : Bool) (x : Scope) (r : TypedScope) → b ≡ false → FitsScope b x r → FitsScope c x r
scope-on b c x r still h = record { joiner = h.joiner; timed = h.timed; phase = phase-on b c r.phase x.phase x.expired still h.phase }

pub entry-on : (p : Program) (w : World) (f g : Frame) → Onward p f g → (e : Entry) (r : TypedEntry) (behind : List TypedEntry) → FitsEntry p w f e r behind → FitsEntry p w g e r behind
entry-on p w f g on (entry.Scope n) (typed.Scope r) behind h =
    record {
      own = on.own r.slot n h.own;
      scope = scope-on (closes (instr_at p f) r.slot) (closes (instr_at p g) r.slot) (scope_at w n) r (on.still r.slot) h.scope;
      covers = rw (on.function) h.covers;
      single = h.single;
    }
entry-on p w f g on e r behind h = h

pub slot-on : (p : Program) (w : World) (f g : Frame) → Onward p f g → (x : Slot) (k : SlotKind) → FitsSlot w f x k → FitsSlot w g x k
slot-on p w f g on (Sub u) (kind_of.Sub y state) h = record { scope = h.scope; own = on.own y h.scope h.own; inside = h.inside; known = h.known }
slot-on p w f g on x k h = h
