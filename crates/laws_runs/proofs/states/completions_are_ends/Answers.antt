use Rattle.laws_runs.proofs.StateLemmas as laws
use Rattle.laws_runs.proofs.states.completions_are_ends.Goals as goal

pub returns : goal.returns
returns c = laws.completions_are_ends
