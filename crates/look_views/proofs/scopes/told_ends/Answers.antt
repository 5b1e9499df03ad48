use Rattle.std.proofs.Common.{[], ◌∷◌, refl}
use Rattle.std.proofs.lemmas.List.{at_drop_more}
use Rattle.serde_json.specs.View.{view}
use Rattle.look_views.specs.Scope.{told_ends}
use Rattle.look_views.proofs.ListLemmas.{next_part, one_value}
use Rattle.look_views.proofs.scopes.told_ends.Goals as goal

pub loop-told-preserved : goal.loop-told-preserved
loop-told-preserved c =
    let text = c.args.names.now in
    next_part view c.loop-told.list.items c.push.new.self.items (_ ∷ []) _ _ _ c.loop-told.invariant
    (at_drop_more (told_ends text) c.args.completions.now c.loop-told.told-index _ c.loop-told-test.true)
    (one_value view c.loop-told.list.items c.push.new.self.items _ _ (_ ∷ []) refl c.in_ok-told_end.ensures c.in_ok-push.ensures.items)
