-- How bytes are handed to a caller that gave limited room (this project's own).
use Rattle.std.specs.Prelude.{◌≡◌, ℕ, List, ◌++◌, length, take, drop}
use Rattle.sts_output.specs.Output.{Output}

-- what a caller gets back: a status, a size, and the room that it gave, as it was and as it is
pub record Received : Type 0 where
  pub status : ℕ
  pub size : ℕ
  pub before : List ℕ
  pub after : List ℕ

-- these bytes and this status: the size is that of all bytes; the room has their front, as far as
-- it goes, and is unchanged after that
abbrev pub IsHanded : List ℕ → ℕ → Received → Type 0
IsHanded bytes status r =
    (r.status ≡ status) × (r.size ≡ length bytes)
    × (r.after ≡ take (length r.before) bytes ++ drop (length bytes) r.before)

-- an output that is right is handed over
abbrev pub Hands : (Output → Type 0) → Received → Type 0
Hands IsRight r = (o : Output) × IsRight o × IsHanded o.bytes o.status r
