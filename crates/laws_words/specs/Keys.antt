-- Which keys a list has. This project's own.
use Rattle.std.specs.Prelude.{◌≢◌, ℕ, List, [], ◌∷◌}

-- the list doesn't have the key
abbrev pub NotIn : ℕ → List ℕ → Type 0
NotIn k [] = Unit {0}
NotIn k (x ∷ xs) = (k ≢ x) × NotIn k xs
