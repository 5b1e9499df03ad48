use Rattle.std.proofs.Common.{◌∙◌}
use Rattle.std.proofs.lemmas.Result.{IfOk-weaker}
use Rattle.look_views.proofs.StandLemmas.{stands_as}
use Rattle.look_views.proofs.views.JsonViews.event_view.Goals as goal

pub returns : goal.returns
returns c =
    IfOk-weaker c.with_stand.result _ _ (λ v h. h ∙ stands_as c.args.self.wanted.living _ _)
    (c.with_stand.ensures _ c.applied_event.ensures)
