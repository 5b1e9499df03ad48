use Rattle.sts_budget.specs.declared.change.Resource.TheVariants.{Steps, Tasks, Scopes, Binds}
use Rattle.sts_budget.proofs.TogetherLemmas.{each}
use Rattle.sts_budget.proofs.together.budgets_of.Goals as goal

pub budget_from-requires : goal.budget_from-requires
budget_from-requires c = c.requires Steps

pub budget_from-requires-2 : goal.budget_from-requires-2
budget_from-requires-2 c = c.requires Tasks

pub budget_from-requires-3 : goal.budget_from-requires-3
budget_from-requires-3 c = c.requires Scopes

pub budget_from-requires-4 : goal.budget_from-requires-4
budget_from-requires-4 c = c.requires Binds

pub returns : goal.returns
returns c = each _ c.budget_from.ensures c.budget_from-2.ensures c.budget_from-3.ensures c.budget_from-4.ensures
