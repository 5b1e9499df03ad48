use Rattle.std.proofs.Common.{[], ◌∷◌, get_or, pos, refl, ap, ◌∙◌, rules, w64}
use mir.Val.{SFits}
use Rattle.std.proofs.lemmas.Int.{to_z-of_z}
use Rattle.std.proofs.lemmas.List.{at_drop_more}
use Rattle.serde_json.specs.View.{view}
use Rattle.look_cases.specs.Json.{integer}
use Rattle.look_views.specs.Task.{integers}
use Rattle.look_views.proofs.ListLemmas.{next_part, one_value}
use Rattle.look_views.proofs.frames.integers.Goals as goal

pub loop-value-preserved : goal.loop-value-preserved
loop-value-preserved c =
    let shown = integer (get_or c.args.values.now c.loop-value.value-index (pos 0)) in
    let fits : SFits w64 (get_or c.args.values.now c.loop-value.value-index (pos 0)) = search rules in
    next_part view c.loop-value.list.items c.push.new.self.items (shown ∷ []) _ _ _ c.loop-value.invariant
    (at_drop_more integers c.args.values.now c.loop-value.value-index (pos 0) c.loop-value-test.true)
    (one_value view c.loop-value.list.items c.push.new.self.items _ shown (shown ∷ []) refl
    (c.from.ensures ∙ ap integer (to_z-of_z w64 (get_or c.args.values.now c.loop-value.value-index (pos 0)) fits))
    c.in_ok-push.ensures.items)
