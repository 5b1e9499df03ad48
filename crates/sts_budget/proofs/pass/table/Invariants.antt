use Rattle.sts_rules.specs.Budget.{skeleton}
use Rattle.sts_budget.specs.Ready.{flows_in}
use Rattle.sts_budget.specs.Table.{IsPartial}
use Rattle.sts_budget.proofs.pass.table.Given as goal

-- the places so far have handed on their sums
abbrev pub invariant-loop-pc : goal.invariant-loop-pc
invariant-loop-pc g l = IsPartial (skeleton l.pass.earlier.now l.pass.code.now) (flows_in l.pass.resource l.pass.earlier.now l.pass.code.now l.pass.layout.now) l.pc l.best.items
