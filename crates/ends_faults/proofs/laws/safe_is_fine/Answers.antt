use Rattle.ends_faults.proofs.FaultLemmas as laws
use Rattle.ends_faults.proofs.laws.safe_is_fine.Goals as goal

pub returns : goal.returns
returns c = laws.safe_is_fine
