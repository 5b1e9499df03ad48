use Rattle.laws_accepted.proofs.CostLaws as laws
use Rattle.laws_accepted.proofs.costs.tasks_are_within.Goals as goal

pub returns : goal.returns
returns c = laws.tasks_are_within
