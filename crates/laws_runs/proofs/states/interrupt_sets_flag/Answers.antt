use Rattle.laws_runs.proofs.FlagLemmas as laws
use Rattle.laws_runs.proofs.states.interrupt_sets_flag.Goals as goal

pub returns : goal.returns
returns c = laws.interrupt_sets_flag
