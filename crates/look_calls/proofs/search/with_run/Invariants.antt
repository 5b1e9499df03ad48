use Rattle.look_calls.specs.Calls.{AreCallEnds}
use Rattle.look_calls.proofs.search.with_run.Given as goal

abbrev pub invariant-loop-ended : goal.invariant-loop-ended
invariant-loop-ended l = AreCallEnds l.setting l.found.items
