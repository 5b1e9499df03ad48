use Rattle.std.proofs.Common.{◌≡◌, ◌<◌, ◌+◌, min, ℕ, get_or, length}
use Rattle.sts_budget.specs.Change.{source_of, added_of}
use Rattle.sts_budget.proofs.row.values_after.Given as goal

-- the sums so far
abbrev pub invariant-loop-d : goal.invariant-loop-d
invariant-loop-d g l = (length l.values ≡ g.row.N) × ((d : ℕ) → d < l.d → get_or l.values d 0 ≡ min (get_or l.row (source_of l.change l.depth d) 0 + added_of l.change l.depth d) 18446744073709551615)
