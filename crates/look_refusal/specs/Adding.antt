-- The amounts that the steps of a control path add to the sum over the first open entries at its
-- end (this project's own).
use Rattle.std.specs.Prelude.{ℕ, ◌+◌, ◌≤◌, ◌==◌, List, [], ◌∷◌, if◌then◌else◌}
use Rattle.sts_rules.specs.ControlPaths.{Skeleton, Loops, Follows}
use Rattle.sts_budget.specs.Sums.{Flows}

-- places, and what is added there
abbrev pub Steps : Type 0
Steps = List (ℕ × ℕ)

-- Some control path reaches the place with these loops open. Its steps are listed with the last one
-- first: each with its place, and with the amount that it adds to the sum over the first d entries.
pub data Adds (c : Skeleton) (f : Flows) : ℕ → ℕ → Loops → Steps → Type 0 where
  none : Adds c f 0 0 [] []
  more : {d pc : ℕ} {loops : Loops} {steps : Steps} {to : ℕ} {after : Loops} → d ≤ f.depth to
      → Adds c f (f.source pc d) pc loops steps → Follows c pc loops to after
      → Adds c f d to after ((pc, f.added pc d) ∷ steps)

-- what is added at one place
abbrev pub at_place : ℕ → ℕ → ℕ → ℕ
at_place pc amount x = if pc == x then amount else 0

-- all that the steps at a place add
abbrev pub share : Steps → ℕ → ℕ
share [] x = 0
share (e ∷ es) x = share es x + at_place e.0 e.1 x

-- all that the steps add
abbrev pub total : Steps → ℕ
total [] = 0
total (e ∷ es) = total es + e.1
