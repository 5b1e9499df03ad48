use Rattle.ends_whole.specs.Whole.{AreWhole}
use Rattle.ends_plain.specs.Listed.{AreEnds}
use Rattle.look_ends.proofs.by_calls.try_again.Given as goal

abbrev pub invariant-loop : goal.invariant-loop
invariant-loop g l = record {
  sound : AreEnds l.setting l.calls.found.items;
  complete : AreWhole l.calls.whole l.setting l.calls.found.items;
}
