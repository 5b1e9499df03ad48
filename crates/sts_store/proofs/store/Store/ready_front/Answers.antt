use Rattle.std.proofs.Common.{sym, ◌∙◌}
use Rattle.sts_store.specs.contracts.store.Store.{the_view}
use Rattle.sts_store.proofs.Seeing.{going_is, front_has, none_has}
use Rattle.sts_store.proofs.store.Store.ready_front.Goals as goal

pub returns-clause-some : goal.returns-clause-some
returns-clause-some c t e =
    going_is (the_view c.self.inside) c.args.self.now t c.self.view_is (c.ready_front.ensures.list t)
    ∙ front_has c.self.inside.tree.ready t (sym c.ready_front.ensures.front ∙ e)

pub returns-clause-none : goal.returns-clause-none
returns-clause-none c t e =
    going_is (the_view c.self.inside) c.args.self.now t c.self.view_is (c.ready_front.ensures.list t)
    ∙ none_has c.self.inside.tree.ready t (sym c.ready_front.ensures.front ∙ e)
