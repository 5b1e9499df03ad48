use Rattle.laws_live.proofs.Stands as laws
use Rattle.laws_live.proofs.moves.stands_stay.Goals as goal

pub returns : goal.returns
returns c = laws.stands_stay
