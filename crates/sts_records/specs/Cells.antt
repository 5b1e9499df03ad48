-- How places for records lie in cells. No public clause cites this module (this project's own).
use Rattle.std.specs.Prelude.{◌≡◌, ◌≢◌, ◌<◌, ◌^◌, ⊤, ℕ, List, map, Option, Some, None}
use Rattle.std.specs.Prelude.{is_some, slice_index_or}
use Rattle.std.specs.List.{All}
use Rattle.slab.specs.Slab.{Slab}
use Rattle.sts_records.specs.Places.{Entry}
use Rattle.sts_records.specs.declared.places.Cell.{Cell}

-- the record of this birth with this body, if there are both
abbrev pub entry_with : {T : Type 0} → Option ℕ → Option T → Option (Entry T)
entry_with None body = None
entry_with (Some birth) None = None
entry_with (Some birth) (Some body) = Some (record { birth = birth; body = body })

-- the record of a cell, if it has one
abbrev pub entry_of : {T : Type 0} → Cell T → Option (Entry T)
entry_of cell = entry_with cell.birth cell.body

-- the record at each key, for these cells
abbrev pub slots_of : {T : Type 0} → List (Cell T) → List (Option (Entry T))
slots_of cells = map entry_of cells

-- the slab has the keys of the records, and there is room for as many cells as keys
pub record IsSound {T : Type 0} (keys : Slab ⊤) (slots : List (Option (Entry T))) (room : ℕ)
    : Type 0 where
  pub same : (key : ℕ) → is_some (slice_index_or keys.slots key None)
      ≡ is_some (slice_index_or slots key None)
  pub alike : room ≡ keys.capacity
  pub small : keys.capacity < 2 ^ 32

-- each cell with a birth has a body
abbrev pub AreWhole : {T : Type 0} → List (Cell T) → Type 0
AreWhole cells = All (λ cell. cell.birth ≢ None → cell.body ≢ None) cells

-- this record lies at the key now, and what lies at each other key is as it was
pub record Lays {T : Type 0} (old new : List (Option (Entry T))) (key : ℕ) (entry : Entry T)
    : Type 0 where
  pub here : slice_index_or new key None ≡ Some entry
  pub others : (other : ℕ) → other ≢ key
      → slice_index_or new other None ≡ slice_index_or old other None
