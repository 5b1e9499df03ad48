-- The ways that arrive at a place, and the places where two with different typestates meet (this
-- project's own).
use Rattle.std.specs.Prelude.{◌≡◌, ◌≢◌, ◌⊎◌, ◌<◌, ℕ, List, Option, Some, Ok, slice_get}
use Rattle.sts_code.specs.Program.{Program, routine, instr_at}
use Rattle.sts_rules.specs.Edges.{edges, back_of, typing}
use Rattle.sts_rules.specs.Flow.{Reaches, IsClear}
use Rattle.sts_rules.specs.TypeState.{TypeState, entry}
use Rattle.look_refusal.specs.declared.ways.WayOrigin.{WayOrigin}
use Rattle.look_refusal.specs.declared.ways.WayOrigin.TheVariants.{Beginning, Edge, Turn}
use Rattle.look_refusal.specs.declared.ways.Way.{Way}
use Rattle.look_refusal.specs.declared.ways.Meeting.{Meeting}

-- A typestate arrives at a place in one of three ways. At the beginning of the function it is the
-- first typestate. Along an edge of an instruction, by its number, it follows from a typestate that
-- reaches that instruction. At the beginning of a loop's turn it may be the typestate in which the
-- turn before ends.
abbrev pub Arrives : Program → ℕ → ℕ → WayOrigin → TypeState → Type 0
Arrives p f to Beginning s = (to ≡ 0) × (s ≡ entry p f)
Arrives p f to (Edge from number) s =
    (before : TypeState) × ((out : List (ℕ × TypeState))
    × (Reaches (typing p f) from before × (edges p f from before ≡ Ok out)
    × (slice_get out number ≡ Some (to, s))))
Arrives p f to (Turn from) s =
    Reaches (typing p f) from s × (back_of (instr_at (routine p f).code from) s ≡ Some to)

-- the way arrives at the place, and its typestate reaches it
abbrev pub IsWayTo : Program → ℕ → ℕ → Way → Type 0
IsWayTo p f to w = Arrives p f to w.origin w.state × Reaches (typing p f) to w.state

-- a way that arrives there with a typestate other than `known`
abbrev pub IsOtherWay : Program → ℕ → ℕ → Option TypeState → Way → Type 0
IsOtherWay p f to known w = IsWayTo p f to w × (known ≢ Some w.state)

-- each way to a place along an edge of the second place arrives with the typestate `known`
abbrev pub ArriveAlike : Program → ℕ → ℕ → Option TypeState → ℕ → Type 0
ArriveAlike p f to known from =
    (number : ℕ) (s : TypeState) → Arrives p f to (Edge from number) s → known ≡ Some s

-- two ways meet with different typestates: at this place, or at the beginning of the turn that ends
-- here
pub record Meets (p : Program) (f pc : ℕ) (m : Meeting) : Type 0 where
  pub one : Arrives p f m.at m.one.origin m.one.state
  pub other : Arrives p f m.at m.other.origin m.other.state
  pub differ : m.one.state ≢ m.other.state
  pub here : (m.at ≡ pc) ⊎ (m.other.origin ≡ Turn pc)

-- some typestate reaches the place
abbrev pub IsReached : Program → ℕ → ℕ → Type 0
IsReached p f pc = (s : TypeState) × Reaches (typing p f) pc s

-- no place before it has a cause
abbrev pub AreClear : Program → ℕ → ℕ → Type 0
AreClear p f pc = (earlier : ℕ) → earlier < pc → IsClear (typing p f) earlier
