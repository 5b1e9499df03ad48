-- Numbers from a least to a greatest one (this project's own).
use Rattle.std.specs.Prelude.{ℕ, ◌≤◌}
use Rattle.ends_picks.specs.declared.ranges.Range.{Range}

-- the number is in the range
pub record IsIn (r : Range) (n : ℕ) : Type 0 where
  pub least : r.least ≤ n
  pub greatest : n ≤ r.greatest
