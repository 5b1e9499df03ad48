use Rattle.laws_calls.proofs.TriggerLemmas as laws
use Rattle.laws_calls.proofs.laws.stops_at_limit.Goals as goal

pub returns : goal.returns
returns c = laws.stops_at_limit
