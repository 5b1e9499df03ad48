use Rattle.laws_accepted.proofs.Born as laws
use Rattle.laws_accepted.proofs.costs.births_are_steps.Goals as goal

pub returns : goal.returns
returns c = laws.births_are_steps
