use Rattle.laws_runs.proofs.StateLemmas as laws
use Rattle.laws_runs.proofs.states.owners_hold.Goals as goal

pub returns : goal.returns
returns c = laws.owners_hold
