use Rattle.laws_runs.proofs.StepLemmas as laws
use Rattle.laws_runs.proofs.states.root_ends_last.Goals as goal

pub returns : goal.returns
returns c = laws.root_ends_last
