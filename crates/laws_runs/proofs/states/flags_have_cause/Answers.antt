use Rattle.laws_runs.proofs.FlagLemmas as laws
use Rattle.laws_runs.proofs.states.flags_have_cause.Goals as goal

pub returns : goal.returns
returns c = laws.flags_have_cause
