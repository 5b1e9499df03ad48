use Rattle.look_calls.specs.Walks.{GoesOn}
use Rattle.look_calls.proofs.walk.with_events.Given as goal

abbrev pub invariant-loop-event : goal.invariant-loop-event
invariant-loop-event l = GoesOn l.setting l.fn.first l.walk
