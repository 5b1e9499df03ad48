use Rattle.std.proofs.Common.{arith}
use Rattle.sts_budget.proofs.LastTurns.{limit_small, own_within}
use Rattle.sts_budget.proofs.together.budget_from.Goals as goal

pub overflow_cast-result : goal.overflow_cast-result
overflow_cast-result c = omega (arith, c.requires, limit_small c.args.resource)

pub overflow_add-result : goal.overflow_add-result
overflow_add-result c =
    omega (arith, c.requires, c.own_of.ensures, own_within c.args.resource, limit_small c.args.resource)
