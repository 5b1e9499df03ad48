use Rattle.std.proofs.Common.{drop, reverse, refl, ap, ◌∙◌}
use Rattle.sts_model.proofs.ListLemmas.{reverse_take}
use Rattle.sts_model.proofs.stack.Stack.drop_one.Goals as goal

pub returns : goal.returns
returns g c =
    ap reverse c.pop.ensures.rest
    ∙ reverse_take c.self.inside.values.items 1 _ refl
    ∙ ap (drop 1) c.self.view_is
