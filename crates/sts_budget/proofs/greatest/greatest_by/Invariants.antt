use Rattle.sts_budget.specs.Last.{IsTopped}
use Rattle.sts_budget.proofs.greatest.greatest_by.Given as goal

-- the greatest of the places so far, which is within the limit
abbrev pub invariant-loop-pc : goal.invariant-loop-pc
invariant-loop-pc g l = IsTopped l.pass l.best.items l.pc l.top
