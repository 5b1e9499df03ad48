use Rattle.laws_runs.proofs.FlagLemmas as laws
use Rattle.laws_runs.proofs.states.cancel_interrupts.Goals as goal

pub returns : goal.returns
returns c = laws.cancel_interrupts
