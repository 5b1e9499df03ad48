use Rattle.std.proofs.Common.{◌≤◌, get_or, arith, below_more}
use Rattle.sts_budget.proofs.Rows.{raised_more}
use Rattle.sts_budget.proofs.row.raise.Goals as goal

pub loop-d-preserved : goal.loop-d-preserved
loop-d-preserved g c =
    let (long, below, above, small) = c.loop-d.invariant in
    let more = raised_more g.row.N c.loop-d.d c.args.values.now c.args.row.now c.loop-d.row _ (omega (arith, c.requires)) (long, below, above) c.max.ensures in
    (more.0, more.1, more.2, below_more (λ q. get_or c.args.values.now q 0 ≤ c.args.most) c.loop-d.d small c.if-values-d.false)
