-- Rows of sums, one for each number of entries (this project's own).
use Rattle.std.specs.Prelude.{◌≡◌, ℕ, ◌<◌, ◌≤◌, max, List, get_or}

-- one of the values up to low passes the limit
abbrev pub IsOver : List ℕ → ℕ → ℕ → Type 0
IsOver values low most = (d : ℕ) × ((d ≤ low) × (most < get_or values d 0))

-- the row after its sums up to low were raised to these values
pub record IsRaised (values : List ℕ) (low most : ℕ) (before after : List ℕ) : Type 0 where
  pub higher : (d : ℕ) → d ≤ low → get_or after d 0 ≡ max (get_or before d 0) (get_or values d 0)
  pub same : (d : ℕ) → low < d → get_or after d 0 ≡ get_or before d 0
  pub small : (d : ℕ) → d ≤ low → get_or values d 0 ≤ most
