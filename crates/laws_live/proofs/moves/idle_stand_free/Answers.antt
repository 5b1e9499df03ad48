use Rattle.laws_live.proofs.Stands as laws
use Rattle.laws_live.proofs.moves.idle_stand_free.Goals as goal

pub returns : goal.returns
returns c = laws.idle_stand_free
