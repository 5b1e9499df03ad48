use Rattle.ends_plain.specs.Configs.{start}
use Rattle.ends_plain.proofs.WayLemmas.{way_more}
use Rattle.ends_calls.proofs.ends.walked.Goals as goal

pub loop-preserved : goal.loop-preserved
loop-preserved c =
    let g = c.args.setting.now in
    let e = c.in-Some.event in
    rw (c.in_ok-push.ensures, c.in_ok-apply_event.ensures) (way_more g (start g) c.loop.config c.loop.trace e c.loop.invariant c.in-Some.ensures)
