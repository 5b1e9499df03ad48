use Rattle.laws_accepted.proofs.CostLaws as laws
use Rattle.laws_accepted.proofs.costs.binds_are_within.Goals as goal

pub returns : goal.returns
returns c = laws.binds_are_within
