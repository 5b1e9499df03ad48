use Rattle.ends_plain.specs.Listed.{AreEnds}
use Rattle.ends_plain.proofs.sample.sample_ends.Given as goal

abbrev pub invariant-loop-number : goal.invariant-loop-number
invariant-loop-number l = AreEnds l.setting l.so_far.found.items
