use Rattle.look_calls.specs.Calls.{AreCallEnds}
use Rattle.look_calls.proofs.search.tried.Given as goal

abbrev pub invariant-loop : goal.invariant-loop
invariant-loop l = AreCallEnds l.setting l.found.items
