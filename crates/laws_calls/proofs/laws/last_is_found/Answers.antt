use Rattle.laws_calls.proofs.TriggerLemmas as laws
use Rattle.laws_calls.proofs.laws.last_is_found.Goals as goal

pub returns : goal.returns
returns c = laws.last_is_found
