use Rattle.std.proofs.Common.{drop, reverse, refl, ap, ◌∙◌}
use Rattle.std.proofs.lemmas.List.{drop-drop}
use Rattle.sts_model.proofs.ListLemmas.{reverse_take}
use Rattle.sts_model.proofs.stack.Stack.drop_each.Goals as goal

pub loop-preserved : goal.loop-preserved
loop-preserved g c =
    ap reverse c.pop.ensures.rest
    ∙ reverse_take c.loop.self-inside.values.items 1 _ refl
    ∙ ap (drop 1) c.loop.invariant
    ∙ drop-drop 1 c.loop.counter c.args.self.now
