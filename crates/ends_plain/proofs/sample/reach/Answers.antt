use Rattle.ends_plain.proofs.WayLemmas.{way_more}
use Rattle.ends_plain.proofs.sample.reach.Goals as goal

pub loop-moment-init : goal.loop-moment-init
loop-moment-init c first way = way

pub loop-moment-preserved : goal.loop-moment-preserved
loop-moment-preserved c first way =
    let comes = rw c.in-Some.is at c.in_ok-event.ensures in
    rw (c.in_ok-go.ensures.trace, c.in_ok-go.ensures.config) (way_more c.args.setting.now first c.loop-moment.way.config
    c.loop-moment.way.trace c.in-Some.event (c.loop-moment.invariant first way) comes)
