use Rattle.std.proofs.Common.{ap, ◌∙◌}
use Rattle.std.proofs.lemmas.Result.{IfOk-weaker}
use Rattle.serde_json.specs.View.{items_of}
use Rattle.sts_model.specs.World.{World}
use Rattle.look_views.specs.Scope as scope
use Rattle.look_views.proofs.views.with_whole.Goals as goal

pub returns : goal.returns
returns c ms value =
    let shown = ap (λ (w : World). items_of (scope.scopes c.args.names.now c.args.full w w.scopes 0)) (c.records.ensures ∙ c.world.ensures) in
    let scopes = IfOk-weaker c.scopes-scopes.result _ _ (λ list h. h ∙ shown) c.scopes-scopes.ensures in
    c.with_lists.ensures _ _ _ (c.with_run-value.ensures _ value) scopes c.tasks-tasks.ensures
