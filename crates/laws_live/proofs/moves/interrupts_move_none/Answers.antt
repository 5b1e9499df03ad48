use Rattle.laws_live.proofs.Stands as laws
use Rattle.laws_live.proofs.moves.interrupts_move_none.Goals as goal

pub returns : goal.returns
returns c = laws.interrupts_move_none
