use Rattle.laws_accepted.proofs.CostLaws as laws
use Rattle.laws_accepted.proofs.costs.room_is_left.Goals as goal

pub returns : goal.returns
returns c = laws.room_is_left
