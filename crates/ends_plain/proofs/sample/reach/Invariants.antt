use Rattle.ends_plain.specs.Ways.{GoesOn}
use Rattle.ends_plain.proofs.sample.reach.Given as goal

abbrev pub invariant-loop-moment : goal.invariant-loop-moment
invariant-loop-moment l = GoesOn l.setting l.fn.way l.way
