use Rattle.std.proofs.Common.{◌≡◌, ◌<◌, ◌+◌, ◌∙◌, [], length, get_or, rules, subst, arith}
use Rattle.sts_budget.specs.declared.change.Resource.TheVariants.{Steps, Tasks, Scopes, Binds}
use Rattle.sts_budget.specs.Table.{IsRaisedAt}
use Rattle.sts_budget.specs.Together.{most}
use Rattle.sts_budget.proofs.Carried.{carried_step}
use Rattle.std.proofs.lemmas.List.{get_or_default}
use Rattle.sts_budget.proofs.TogetherLemmas.{each, most_small}
use Rattle.sts_budget.proofs.together.Tables.step_on.Goals as goal

pub returns : goal.returns
returns g c =
    let rows = c.args.self.now.steps.items in
    let next : c.args.pc + 1 < length rows = c.requires.inside Steps in
    let within : c.args.pc < length rows = omega (arith, next) in
    let is : c.index.result.now ≡ get_or rows c.args.pc [] = c.index.ensures ∙ get_or_default rows c.args.pc _ [] within in
    λ yes. each _ (carried_step c.args.pc (most Steps) c.risen-steps.result rows c.raise_row.new.best.items c.index.result.now next is (most_small Steps)
    (c.risen-steps.ensures 0 (omega arith)) (subst (λ m. IsRaisedAt c.risen-steps.result 0 m (c.args.pc + 1) rows c.raise_row.new.best.items)
    c.most_of.ensures (c.raise_row.ensures.raised yes))) c.carry.ensures c.carry-2.ensures c.carry-3.ensures

pub index-requires : goal.index-requires
index-requires g c =
    let next : c.args.pc + 1 < length c.args.self.now.steps.items = c.requires.inside Steps in
    let within : c.args.pc < length c.args.self.now.steps.items = omega (arith, next) in
    search (rules, within)

pub carry-requires : goal.carry-requires
carry-requires g c = (omega (arith, c.requires.small), c.requires.inside Tasks)

pub carry-requires-2 : goal.carry-requires-2
carry-requires-2 g c = (omega (arith, c.requires.small), c.requires.inside Scopes)

pub carry-requires-3 : goal.carry-requires-3
carry-requires-3 g c = (omega (arith, c.requires.small), c.requires.inside Binds)

pub overflow_add-pc : goal.overflow_add-pc
overflow_add-pc g c =
    let next : c.args.pc + 1 < length c.args.self.now.steps.items = c.requires.inside Steps in
    search (rules, next)

pub raise_row-requires : goal.raise_row-requires
raise_row-requires g c =
    let next : c.args.pc + 1 < length c.args.self.now.steps.items = c.requires.inside Steps in
    search (rules, next)
