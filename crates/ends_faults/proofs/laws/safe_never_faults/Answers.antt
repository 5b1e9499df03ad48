use Rattle.ends_faults.proofs.TableLemmas as laws
use Rattle.ends_faults.proofs.laws.safe_never_faults.Goals as goal

pub returns : goal.returns
returns c = laws.safe_never_faults
