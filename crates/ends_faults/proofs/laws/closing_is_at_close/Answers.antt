use Rattle.ends_faults.proofs.ClosingLemmas as laws
use Rattle.ends_faults.proofs.laws.closing_is_at_close.Goals as goal

pub returns : goal.returns
returns c = laws.closing_is_at_close
