use Rattle.std.proofs.Common.{◌≡◌, ◌<◌, ◌+◌, ◌*◌, ℕ, min, get_or, length}
use Rattle.sts_budget.proofs.row.values_of_loop.Given as goal

-- the sums so far
abbrev pub invariant-loop-d : goal.invariant-loop-d
invariant-loop-d g l = (length l.values ≡ g.row.N) × ((d : ℕ) → d < l.d → get_or l.values d 0 ≡ min (get_or l.head d 0 + l.own + l.turns * (get_or l.end d 0 + l.own)) 18446744073709551615)
