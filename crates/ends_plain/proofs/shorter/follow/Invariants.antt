use Rattle.ends_plain.specs.Ways.{GoesOn}
use Rattle.ends_plain.proofs.shorter.follow.Given as goal

abbrev pub invariant-loop-event : goal.invariant-loop-event
invariant-loop-event l = GoesOn l.setting l.fn.way l.way
