use Rattle.sts_budget.specs.Together.{AreTopped}
use Rattle.sts_budget.proofs.together.budgets_by.Given as goal

-- the greatest sums of the places so far
abbrev pub invariant-loop-pc : goal.invariant-loop-pc
invariant-loop-pc g l = AreTopped l.source l.tables l.pc l.tops
