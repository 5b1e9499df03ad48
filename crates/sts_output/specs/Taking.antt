-- The bytes that are taken from a reader (this project's own).
use Rattle.std.specs.Prelude.{◌≡◌, ℕ, ◌≤◌, List, Option, Some, IfSome, length, take}
use Rattle.std.specs.Io.KnownBytes.{Consumes}

-- a reader's known bytes lose at most `most` at their front
abbrev pub LosesUpTo : ℕ → Option (List ℕ) → Option (List ℕ) → Type 0
LosesUpTo most old new = (bs : List ℕ) × (length bs ≤ most) × Consumes old new bs

-- if a source's bytes are known, its reader gives them
abbrev pub Gives : Option (List ℕ) → Option (List ℕ) → Type 0
Gives known remaining = IfSome known (λ xs. remaining ≡ Some xs)

-- if a source's bytes are known, these are the first of them, up to a limit
abbrev pub IsTakenOf : Option (List ℕ) → ℕ → List ℕ → Type 0
IsTakenOf known most taken = IfSome known (λ xs. taken ≡ take most xs)
