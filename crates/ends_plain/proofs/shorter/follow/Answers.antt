use Rattle.std.proofs.Common.{sym, ◌∙◌}
use Rattle.ends_plain.proofs.WayLemmas.{way_more}
use Rattle.ends_plain.proofs.shorter.follow.Goals as goal

pub loop-event-init : goal.loop-event-init
loop-event-init c first way = way

pub loop-event-preserved : goal.loop-event-preserved
loop-event-preserved c first way =
    rw (c.in_ok-go.ensures.trace, c.in_ok-go.ensures.config) (way_more c.args.setting.now first c.loop-event.way.config c.loop-event.way.trace
    _ (c.loop-event.invariant first way) (sym c.can_come.ensures ∙ c.if-not-can_come.false))
