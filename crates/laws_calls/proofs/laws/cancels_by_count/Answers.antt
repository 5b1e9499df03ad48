use Rattle.laws_calls.proofs.TriggerLemmas as laws
use Rattle.laws_calls.proofs.laws.cancels_by_count.Goals as goal

pub returns : goal.returns
returns c = laws.cancels_by_count
