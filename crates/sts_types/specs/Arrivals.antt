-- The states that a table keeps of those that arrive at its places: at most one state a place (this
-- project's own).
use Rattle.std.specs.Prelude.{◌≡◌, ◌≢◌, ◌<◌, ◌≤◌, ℕ, ◌⊎◌, List, [], ◌∷◌, Option, Some, None}
use Rattle.std.specs.Prelude.{slice_index_or, slice_set}
use Rattle.sts_code.specs.declared.limits.TheConstants.{MAX_OPERANDS}
use Rattle.sts_rules.specs.TypeState.{TypeState}
use Rattle.sts_types.specs.declared.arrival.Arrival.{Arrival}
use Rattle.sts_types.specs.declared.arrival.Arrival.TheVariants.{Nothing, One, Several}
use Rattle.sts_types.specs.declared.arrivals.Mark.{Mark}

-- after s has arrived too
abbrev pub Merged : {S : Type 0} → Arrival S → S → Arrival S → Type 0
Merged Nothing s after = after ≡ One s
Merged (One t) s after = ((t ≡ s) × (after ≡ One t)) ⊎ ((t ≢ s) × (after ≡ Several))
Merged Several s after = after ≡ Several

-- after each of these pairs has arrived in turn
abbrev pub Arrive : {S : Type 0} → List (Arrival S) → List (ℕ × S) → List (Arrival S) → Type 0
Arrive table [] after = after ≡ table
Arrive {S} table (e ∷ es) after =
    (b : Arrival S)
    × (Merged (slice_index_or table e.0 Nothing) e.1 b × Arrive (slice_set table e.0 b) es after)

-- after the pair, if there is one, has arrived
abbrev pub ArriveAt : {S : Type 0} → List (Arrival S) → Option (ℕ × S) → List (Arrival S) → Type 0
ArriveAt table None after = after ≡ table
ArriveAt {S} table (Some e) after =
    (b : Arrival S)
    × (Merged (slice_index_or table e.0 Nothing) e.1 b × (after ≡ slice_set table e.0 b))

-- the typestates that have arrived at each place, the current one, and that of the place that was
-- loaded last
pub record Arrived : Type 0 where
  pub table : List (Arrival TypeState)
  pub state : TypeState
  pub start : TypeState

-- with this number of operands
abbrev pub at_height : ℕ → TypeState → TypeState
at_height h s = record s { height = h }

abbrev pub none : TypeState
none = record { height = 0; loops = []; entries = []; slots = [] }

-- the typestate that a mark refers to
abbrev pub state_of : List TypeState → Mark → TypeState
state_of kept m = at_height m.height (slice_index_or kept m.like none)

-- the mark of a place; that of the first kept typestate, if not one has arrived there
abbrev pub mark_in : Arrival Mark → Mark
mark_in (One m) = m
mark_in _ = record { height = 0; like = 0 }

-- the typestate of a place, by its mark
abbrev pub state_in : List TypeState → Arrival Mark → TypeState
state_in kept a = state_of kept (mark_in a)

-- the typestates that the marks at a place refer to
abbrev pub arrival_of : List TypeState → Arrival Mark → Arrival TypeState
arrival_of kept Nothing = Nothing
arrival_of kept (One m) = One (state_of kept m)
arrival_of kept Several = Several

-- a mark refers to one of n kept typestates, and has no more than 32 operands
abbrev pub IsMarked : ℕ → Arrival Mark → Type 0
IsMarked n (One m) = (m.like < n) × (m.height ≤ MAX_OPERANDS)
IsMarked n _ = Unit {0}

-- replaces the typestate that arrived by this one
abbrev pub filled : {S X : Type 0} → S → Arrival X → Arrival S
filled s Nothing = Nothing
filled s (One x) = One s
filled s Several = Several

-- an edge, if there is one, leads from a typestate to this place and typestate; if there is none,
-- there is no place, and the typestate is unchanged
abbrev pub Goes : Option (ℕ × TypeState) → TypeState → Option ℕ → TypeState → Type 0
Goes None before to after = (to ≡ None) × (after ≡ before)
Goes (Some e) before to after = (to ≡ Some e.0) × (after ≡ e.1)
