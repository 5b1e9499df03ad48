use Rattle.std.proofs.Common.{◌≡◌, ◌<◌, ◌≤◌, max, ℕ, get_or, length}
use Rattle.sts_budget.proofs.row.raise_all.Given as goal

-- the sums so far are raised
abbrev pub invariant-loop-d : goal.invariant-loop-d
invariant-loop-d g l = (length l.row ≡ g.row.N) × ((d : ℕ) → d < l.d → get_or l.row d 0 ≡ max (get_or l.initial.row d 0) (get_or l.other d 0)) × ((d : ℕ) → l.d ≤ d → get_or l.row d 0 ≡ get_or l.initial.row d 0)
