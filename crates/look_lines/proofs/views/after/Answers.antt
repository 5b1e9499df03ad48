use Rattle.std.proofs.Common.{◌∙◌, ap, arith, get_or}
use Rattle.sts_model.specs.declared.event.Event.TheVariants.{Step}
use Rattle.look_lines.specs.Watched.{after_event}
use Rattle.look_lines.proofs.WatchedLemmas.{watched_next}
use Rattle.look_lines.proofs.views.after.Goals as goal

pub loop-i-preserved : goal.loop-i-preserved
loop-i-preserved c =
    let es = c.args.events.now in
    c.in_ok-apply.ensures.ok ∙ ap (λ w. after_event w (get_or es c.loop-i.i (Step 0))) c.loop-i.invariant
    ∙ watched_next c.args.program.now es c.loop-i.i (Step 0) (omega arith) (omega arith)
