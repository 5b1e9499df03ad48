use Rattle.sts_machine.proofs.Equals.{stacks, each_loop}
use Rattle.sts_machine.proofs.comparing.same_loops.Goals as goal

pub returns : goal.returns
returns c = stacks each_loop c.as_slice.result.now c.as_slice-2.result.now _ _ _ c.as_slice.ensures c.as_slice-2.ensures c.eq.ensures
