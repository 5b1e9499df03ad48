use Rattle.sts_rules.specs.Budget.{skeleton}
use Rattle.sts_budget.specs.declared.change.Resource.{Resource}
use Rattle.sts_budget.specs.Ready.{flows_in}
use Rattle.sts_budget.specs.Table.{IsPartial}
use Rattle.sts_budget.specs.Together.{rows_of}
use Rattle.sts_budget.proofs.together.Tables.of.Given as goal

-- the places so far have handed on their sums
abbrev pub invariant-loop-pc : goal.invariant-loop-pc
invariant-loop-pc g l = (k : Resource) → IsPartial (skeleton l.source.earlier.now l.source.code.now) (flows_in k l.source.earlier.now l.source.code.now l.source.layout.now) l.pc (rows_of l.tables k)
