use Rattle.std.proofs.Common.{◌∙◌, ap, arith, get_or}
use Rattle.sts_model.specs.declared.event.Event.TheVariants.{Step}
use Rattle.look_lines.proofs.Runs.{one_event_more}
use Rattle.look_lines.proofs.WatchedLemmas.{watched_next}
use Rattle.look_lines.specs.Watched.{after_event}
use Rattle.look_lines.proofs.views.say_events.Goals as goal

pub loop-i-preserved : goal.loop-i-preserved
loop-i-preserved g c =
    let v = g.V.View.writes c.args.view.now in
    let p = c.args.watch.now.program in
    let es = c.args.events.now in
    let i = c.loop-i.i in
    record {
      stands = c.in_ok-applied.ensures.ok ∙ ap (λ w. after_event w (get_or es i (Step 0))) c.loop-i.invariant.stands ∙ watched_next p es i
          (Step 0) (omega arith) (omega arith);
      written = one_event_more v p es i (Step 0) _ _ _ _ _ _ (omega arith) (omega arith) c.loop-i.invariant.stands
          c.in_ok-applied.ensures.applied c.in_ok-applied.ensures.ok c.in_ok-say_event.ensures c.loop-i.invariant.written;
    }
