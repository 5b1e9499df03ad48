use Rattle.sts_budget.proofs.TogetherLemmas.{each}
use Rattle.sts_budget.proofs.together.no_tops.Goals as goal

pub returns : goal.returns
returns c = each _ (c.in_ok-steps.ensures {u = tt}) (c.in_ok-tasks.ensures {u = tt}) (c.in_ok-scopes.ensures {u = tt}) (c.in_ok-binds.ensures {u = tt})
