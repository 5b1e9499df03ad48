use Rattle.laws_runs.proofs.StateLemmas as laws
use Rattle.laws_runs.proofs.states.closed_is_empty.Goals as goal

pub returns : goal.returns
returns c = laws.closed_is_empty
