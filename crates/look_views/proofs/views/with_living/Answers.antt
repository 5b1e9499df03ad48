use Rattle.std.proofs.Common.{ap, ◌∙◌}
use Rattle.std.proofs.lemmas.Result.{IfOk-weaker}
use Rattle.serde_json.specs.View.{items_of}
use Rattle.sts_model.specs.World.{World}
use Rattle.look_views.specs.Scope as scope
use Rattle.look_views.specs.Views as def
use Rattle.look_views.proofs.views.with_living.Goals as goal

pub returns : goal.returns
returns c ms value =
    let hidden = ap def.not_shown (c.records.ensures ∙ c.world.ensures) in
    let others = IfOk-weaker c.not_shown-others.result _ _ (λ v h. h ∙ hidden) c.not_shown-others.ensures in
    let one = c.with_member-value.ensures _ _ value others in
    let shown =
    ap (λ (w : World). items_of (scope.open_scopes c.args.names.now c.args.full w w.scopes 0)) (c.records-2.ensures ∙ c.world-2.ensures)
    in
    let scopes = IfOk-weaker c.open_scopes-scopes.result _ _ (λ list h. h ∙ shown) c.open_scopes-scopes.ensures in
    c.with_lists.ensures _ _ _ (c.with_run-value.ensures _ one) scopes c.living_tasks-tasks.ensures
