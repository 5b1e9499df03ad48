use Rattle.std.proofs.Common.{arith}
use Rattle.sts_types.proofs.Visiting.{tells_more}
use Rattle.sts_types.proofs.pass.visit_all.Goals as goal

pub loop-pc-preserved : goal.loop-pc-preserved
loop-pc-preserved c = c.in_ok-visit.ensures

pub returns-in_err-visit : goal.returns-in_err-visit
returns-in_err-visit c =
    tells_more c.args.program.now c.args.function _ c.args.count c.in_err-visit.field-0.0 c.from_residual.result _ (omega (arith, c.loop-pc-test.true))
    c.in_err-visit.ensures c.from_residual.ensures.1
