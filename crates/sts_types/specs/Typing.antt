-- The typing of a function, and the errors that are reported if it has none (this project's own).
use Rattle.std.specs.Prelude.{◌≡◌, ℕ, ◌<◌, List, length, slice_index_or}
use Rattle.sts_code.specs.Program.{Program, routine}
use Rattle.sts_rules.specs.Edges.{typing}
use Rattle.sts_rules.specs.Flow.{IsAlone, IsAccepted, IsRefusal}
use Rattle.sts_rules.specs.Refusal.{size}
use Rattle.sts_rules.specs.TypeState.{TypeState}
use Rattle.sts_types.specs.Arrivals.{none}
use Rattle.sts_types.specs.Tables.{Tables, AreTablesOf}
use Rattle.sts_types.specs.declared.pass.TypeError.{TypeError}
use Rattle.sts_types.specs.declared.pass.TypeError.TheVariants.{Memory, Refused}

-- the typestate at each place, and the tables of the loops
pub record Typing : Type 0 where
  pub states : List TypeState
  pub loops : Tables

-- the first k places of the function have no cause: each is reached by its typestate and by no
-- other. The tables are those of its code
pub record IsTypingTo (p : Program) (f k : ℕ) (t : Typing) : Type 0 where
  pub clear : IsAccepted (typing p f) k
  pub long : length t.states ≡ size p f
  pub alone : (pc : ℕ) → pc < k → IsAlone (typing p f) pc (slice_index_or t.states pc none)
  pub loops : AreTablesOf (routine p f).code t.loops

-- the function is well typed, and this is its typing
abbrev pub IsTyping : Program → ℕ → Typing → Type 0
IsTyping p f t = IsTypingTo p f (size p f) t

-- a refusal names the first of the first k places with a cause, and one cause there; running out of
-- memory promises nothing
abbrev pub TellsTo : Program → ℕ → ℕ → TypeError → Type 0
TellsTo p f k Memory = Unit {0}
TellsTo p f k (Refused pc cause) = IsRefusal (typing p f) k pc cause

abbrev pub Tells : Program → ℕ → TypeError → Type 0
Tells p f error = TellsTo p f (size p f) error
