use Rattle.ends_plain.specs.Listed.{AreEnds}
use Rattle.look_ends.proofs.by_calls.add_ends.Given as goal

abbrev pub invariant-loop : goal.invariant-loop
invariant-loop l = record {
  found : AreEnds l.setting l.found.items;
  more : AreEnds l.setting l.more.items;
}
