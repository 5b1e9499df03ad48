use Rattle.look_refusal.proofs.Backwards.{IsUnderWay}
use Rattle.look_refusal.proofs.walk.+back.Given as goal

-- so far a stretch was walked back
abbrev pub invariant-loop-from : goal.invariant-loop-from
invariant-loop-from l = IsUnderWay l.search l.trail l.times l.at l.fn.to l.initial.shares l.shares

abbrev pub decreases-loop-from : goal.decreases-loop-from
decreases-loop-from l = l.at.place

abbrev pub decreases-back : goal.decreases-back
decreases-back l = l.to.place
