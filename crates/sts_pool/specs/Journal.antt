-- The journal of a run, written or only counted (this project's own).
use Rattle.std.specs.Prelude.{◌≡◌, ℕ, ◌+◌, ◌≤◌, List, [], ◌++◌, Bool, Option, Some, None}
use Rattle.std.specs.Prelude.{if◌then◌else◌, vec_len, vec_capacity}
use Rattle.sts_model.specs.declared.event.Event.{Event}
use Rattle.sts_pool.specs.declared.journal.Journal.{Journal}
use Rattle.sts_pool.specs.declared.journal.Journal.TheVariants.{Written, Counted}

-- its entries, if they are written
abbrev pub written : Journal → Option (List Event)
written (Written entries) = Some entries.items
written Counted = None

-- the entries of a new one
abbrev pub opened : Bool → Option (List Event)
opened is_written = if is_written then Some [] else None

-- a written journal has these entries, and room for `room` entries in all
abbrev pub Holds : Journal → List Event → ℕ → Type 0
Holds (Written entries) events room = (entries.items ≡ events) × (room ≤ vec_capacity entries)
Holds Counted events room = Unit {0}

-- there is room for `more` further entries
abbrev pub HasRoomFor : Journal → ℕ → Type 0
HasRoomFor (Written entries) more = vec_len entries + more ≤ vec_capacity entries
HasRoomFor Counted more = Unit {0}

-- these entries came at the end of the written ones, and no room was lost
abbrev pub IsRecorded : Journal → Journal → List Event → Type 0
IsRecorded (Written old) (Written new) events = (new.items ≡ old.items ++ events)
    × (vec_capacity old ≤ vec_capacity new)
IsRecorded Counted Counted events = Unit {0}
IsRecorded (Written old) Counted events = ⊥
IsRecorded Counted (Written new) events = ⊥
