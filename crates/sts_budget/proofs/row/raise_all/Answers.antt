use Rattle.std.proofs.Common.{arith}
use Rattle.sts_budget.proofs.Rows.{raised_more}
use Rattle.sts_budget.proofs.row.raise_all.Goals as goal

pub loop-d-preserved : goal.loop-d-preserved
loop-d-preserved g c = raised_more g.row.N c.loop-d.d c.args.other.now c.args.row.now c.loop-d.row _ c.loop-d-test.true c.loop-d.invariant c.max.ensures

pub returns : goal.returns
returns g c = λ d lt. c.loop-d.invariant.1 d (omega arith)
