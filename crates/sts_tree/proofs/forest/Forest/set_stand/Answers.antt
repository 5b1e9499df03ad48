use Rattle.std.proofs.Common.{◌≡◌, sym, ◌∙◌, ap}
use Rattle.std.proofs.lemmas.Option.{same_Some}
use Rattle.sts_tree.specs.declared.record.TaskNode.{TaskNode}
use Rattle.sts_tree.proofs.forest.Forest.set_stand.Goals as goal

pub returns-clause-set : goal.returns-clause-set
returns-clause-set g c x is =
    let own : c.swap_stand.result.0 ≡ x = same_Some c.swap_stand.result.0 x (sym c.swap_stand.ensures.was ∙ is) in
    rw own at c.swap_stand.ensures.set

pub returns-clause-was : goal.returns-clause-was
returns-clause-was g c x is e =
    let own : c.swap_stand.result.0 ≡ x = same_Some c.swap_stand.result.0 x (sym c.swap_stand.ensures.was ∙ is) in
    ap (λ (y : TaskNode). y.stand) (sym own) ∙ c.swap_stand.ensures.same e
