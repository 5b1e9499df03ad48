use Rattle.std.proofs.Common.{◌≤◌, length}
use Rattle.look_accepted.proofs.search.Points.has.Given as goal

abbrev pub invariant-loop-at : goal.invariant-loop-at
invariant-loop-at l = l.younger ≤ length l.self.found.items

-- the next one is older
abbrev pub decreases-loop-at : goal.decreases-loop-at
decreases-loop-at l = l.younger
