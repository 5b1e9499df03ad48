use Rattle.laws_accepted.proofs.CostLaws as laws
use Rattle.laws_accepted.proofs.costs.loops_have_turns.Goals as goal

pub returns : goal.returns
returns c = laws.loops_have_turns
