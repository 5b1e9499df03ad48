use Rattle.sts_world.proofs.Resting.{topmost}
use Rattle.sts_world.proofs.held.arguments.Goals as goal

pub returns : goal.returns
returns c = rw (← topmost c.as_slice-operands.result.now c.args.forker.now.operands c.args.count c.as_slice-operands.ensures c.requires)
    c.from_slice.ensures.items
