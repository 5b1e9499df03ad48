use Rattle.laws_accepted.proofs.CostLaws as laws
use Rattle.laws_accepted.proofs.costs.a_step_is_left.Goals as goal

pub returns : goal.returns
returns c = laws.a_step_is_left
