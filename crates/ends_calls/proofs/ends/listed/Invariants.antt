use Rattle.ends_plain.specs.Listed.{AreEnds}
use Rattle.ends_calls.specs.Stops.{IsMarked}
use Rattle.ends_calls.proofs.ends.listed.Given as goal

abbrev pub invariant-loop-way : goal.invariant-loop-way
invariant-loop-way l = AreEnds l.setting l.found.items × IsMarked l.setting l.shared
