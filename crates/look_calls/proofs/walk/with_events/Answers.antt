use Rattle.look_calls.proofs.WalkLemmas.{goes_further}
use Rattle.look_calls.proofs.walk.with_events.Goals as goal

pub loop-event-preserved : goal.loop-event-preserved
loop-event-preserved c = goes_further c.args.setting.now c.args.first c.loop-event.walk c.in-Some.more _ c.loop-event.invariant
    (rw c.in-Some.is at c.in_ok-more.ensures)
