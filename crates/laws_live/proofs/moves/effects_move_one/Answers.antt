use Rattle.laws_live.proofs.Stands as laws
use Rattle.laws_live.proofs.moves.effects_move_one.Goals as goal

pub returns : goal.returns
returns c = laws.effects_move_one
