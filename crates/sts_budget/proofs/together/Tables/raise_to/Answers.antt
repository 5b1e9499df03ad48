use Rattle.std.proofs.Common.{rules, subst}
use Rattle.sts_budget.specs.declared.change.Resource.TheVariants.{Steps, Tasks, Scopes, Binds}
use Rattle.sts_budget.specs.Table.{IsRaisedAt}
use Rattle.sts_budget.proofs.TogetherLemmas.{each}
use Rattle.sts_budget.proofs.together.Tables.raise_to.Goals as goal

pub raise_row-requires : goal.raise_row-requires
raise_row-requires g c = search (rules, c.requires.inside Steps, c.requires.low, c.requires.small)

pub raise_row-requires-2 : goal.raise_row-requires-2
raise_row-requires-2 g c = search (rules, c.requires.inside Tasks, c.requires.low, c.requires.small)

pub raise_row-requires-3 : goal.raise_row-requires-3
raise_row-requires-3 g c = search (rules, c.requires.inside Scopes, c.requires.low, c.requires.small)

pub raise_row-requires-4 : goal.raise_row-requires-4
raise_row-requires-4 g c = search (rules, c.requires.inside Binds, c.requires.low, c.requires.small)

pub returns : goal.returns
returns g c = λ yes. each _
    (subst (λ m. IsRaisedAt c.args.values.now.steps 0 m c.args.to c.args.self.now.steps.items c.raise_row.new.best.items)
    c.most_of-steps.ensures (c.raise_row.ensures.raised c.if-not-raise_row.false))
    (subst (λ m. IsRaisedAt c.args.values.now.tasks c.args.low m c.args.to c.args.self.now.tasks.items c.raise_row-2.new.best.items)
    c.most_of-tasks.ensures (c.raise_row-2.ensures.raised c.if-not-raise_row-2.false))
    (subst (λ m. IsRaisedAt c.args.values.now.scopes c.args.low m c.args.to c.args.self.now.scopes.items c.raise_row-3.new.best.items)
    c.most_of-scopes.ensures (c.raise_row-3.ensures.raised c.if-not-raise_row-3.false))
    (subst (λ m. IsRaisedAt c.args.values.now.binds c.args.low m c.args.to c.args.self.now.binds.items c.raise_row-4.new.best.items)
    c.most_of-binds.ensures (c.raise_row-4.ensures.raised yes))
