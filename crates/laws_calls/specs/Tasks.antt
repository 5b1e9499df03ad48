-- A task by itself: its call, and what it knows of its open scopes and of their subtasks (this
-- project's own).
use Rattle.std.specs.Prelude.{◌≡◌, ℕ, ◌⊎◌, List, [], ◌∷◌, ◌++◌, length, map, filter_map, true}
use Rattle.std.specs.Prelude.{Option, Some, None, replicate, ◌==◌, if◌then◌else◌, slice_index_or}
use Rattle.sts_model.specs.declared.event.End.{End}
use Rattle.sts_model.specs.declared.record.Bound.{Bound}
use Rattle.sts_model.specs.declared.record.Entry.{Entry}
use Rattle.sts_model.specs.declared.record.Entry.TheVariants as entry
use Rattle.sts_model.specs.declared.record.Frame.{Frame}
use Rattle.sts_model.specs.declared.record.Slot.TheVariants as slots
use Rattle.sts_model.specs.Environment.{bound_of}
use Rattle.sts_model.specs.World.{entry_frame}
use Rattle.laws_calls.specs.Held.{Held}
use Rattle.laws_calls.specs.Held as held
pub use Rattle.laws_calls.specs.declared.table.Call.{Call}
pub use Rattle.laws_calls.specs.declared.table.Way.{Way}
pub use Rattle.laws_calls.specs.declared.table.Part.{Part}
pub use Rattle.laws_calls.specs.declared.table.Knowledge.{Knowledge}
pub use Rattle.laws_calls.specs.declared.table.Knowledge.TheVariants.{Unseen, ByJoiner, Late, Heard}
pub use Rattle.laws_calls.specs.declared.table.Asked.{Asked}
pub use Rattle.laws_calls.specs.declared.table.Seen.{Seen}
pub use Rattle.laws_calls.specs.declared.table.Own.{Own}

-- ---- lists

-- the list has the element
abbrev pub Among : {X : Type 0} → List X → X → Type 0
Among [] x = ⊥
Among (y ∷ ys) x = (y ≡ x) ⊎ Among ys x

-- R holds for each pair of elements, and the lists are equally long
abbrev pub AllTwo : {X Y : Type 0} → (X → Y → Type 0) → List X → List Y → Type 0
AllTwo R [] [] = Unit {0}
AllTwo R (x ∷ xs) (y ∷ ys) = R x y × AllTwo R xs ys
AllTwo R _ _ = ⊥

-- the element with this many after it
abbrev pub at_place : {X : Type 0} → List X → ℕ → Option X
at_place [] place = None
at_place (x ∷ xs) place = if place == length xs then Some x else at_place xs place

-- the list with another element there
abbrev pub put_place : {X : Type 0} → List X → ℕ → X → List X
put_place [] place y = []
put_place (x ∷ xs) place y = if place == length xs then y ∷ xs else x ∷ put_place xs place y

-- ---- calls

-- one of the ways comes to this end
abbrev pub HasWay : List Way → End → Type 0
HasWay [] e = ⊥
HasWay (way ∷ ways) e = (way.end ≡ e) ⊎ HasWay ways e

-- ---- scopes

-- no answer yet
abbrev pub nothing : Asked
nothing = record { successes = None; failures = None; unavailable = None; total = None }

-- the subtask may be in this state; none means unavailable
abbrev pub May : Part → Option End → Type 0
May part None = part.is_open ≡ true
May part (Some e) = HasWay part.ways e

-- a pick: one possible state for each part
abbrev pub Picks : List Part → List (Option End) → Type 0
Picks parts pick = AllTwo May parts pick

-- ---- tasks

-- an entry without the birth of its scope
abbrev pub blank : Entry → Entry
blank (entry.Scope s) = entry.Scope 0
blank (entry.Binding k v) = entry.Binding k v

-- a frame with empty slots, and without births
abbrev pub bare : Frame → Frame
bare f = record f { entries = map blank f.entries; slots = replicate 16 slots.Empty }

abbrev pub scope_of_entry : Entry → Option ℕ
scope_of_entry (entry.Scope s) = Some s
scope_of_entry (entry.Binding k v) = None

-- the scopes that are open in the entries, by birth, the last opened first
abbrev pub births_in : List Entry → List ℕ
births_in entries = filter_map scope_of_entry entries

-- the beginning of a call, with this in slot 0 and these births left
abbrev pub begin : Held → Call → ℕ → Own
begin first c births =
    record {
      frame = bare (entry_frame c.function c.args slots.Empty);
      held = first ∷ replicate 15 held.Empty;
      scopes = [];
      left = births;
    }

-- the bindings that are in force
abbrev pub bindings : Call → Own → List Bound
bindings c own = filter_map bound_of own.frame.entries ++ c.environment

abbrev pub held_at : Own → ℕ → Held
held_at own x = slice_index_or own.held x held.Empty
