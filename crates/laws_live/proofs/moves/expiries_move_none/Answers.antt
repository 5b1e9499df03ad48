use Rattle.laws_live.proofs.Stands as laws
use Rattle.laws_live.proofs.moves.expiries_move_none.Goals as goal

pub returns : goal.returns
returns c = laws.expiries_move_none
