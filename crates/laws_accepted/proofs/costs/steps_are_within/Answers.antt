use Rattle.laws_accepted.proofs.CostLaws as laws
use Rattle.laws_accepted.proofs.costs.steps_are_within.Goals as goal

pub returns : goal.returns
returns c = laws.steps_are_within
