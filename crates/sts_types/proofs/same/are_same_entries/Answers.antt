use Rattle.sts_types.proofs.ComparingLemmas.{turned}
use Rattle.sts_types.proofs.same.are_same_entries.Goals as goal

pub returns : goal.returns
returns c = turned c.as_slice.result.now c.as_slice-2.result.now _ _ c.are_same_in_turn.result c.as_slice.ensures c.as_slice-2.ensures
    c.are_same_in_turn.ensures
