use Rattle.laws_live.proofs.Stands as laws
use Rattle.laws_live.proofs.moves.stands_are_owned.Goals as goal

pub returns : goal.returns
returns c = laws.stands_are_owned
