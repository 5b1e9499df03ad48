use Rattle.sts_machine.proofs.Equals.{turned}
use Rattle.sts_machine.proofs.comparing.same_entries.Goals as goal

pub returns : goal.returns
returns c = turned c.as_slice.result.now c.as_slice-2.result.now _ _ _ c.as_slice.ensures c.as_slice-2.ensures c.same_kept.ensures
