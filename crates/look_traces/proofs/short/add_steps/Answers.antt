use Rattle.std.proofs.Common.{arith}
use Rattle.look_traces.proofs.Steps.{one_more}
use Rattle.look_traces.proofs.short.add_steps.Goals as goal

pub loop-turn-preserved : goal.loop-turn-preserved
loop-turn-preserved c = one_more _ _ _ _ _ _ (omega arith) c.in_ok-push.ensures.items c.loop-turn.invariant
