use Rattle.laws_runs.proofs.FlagLemmas as laws
use Rattle.laws_runs.proofs.states.flags_are_taken.Goals as goal

pub returns : goal.returns
returns c = laws.flags_are_taken
