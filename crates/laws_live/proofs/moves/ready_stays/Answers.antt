use Rattle.laws_live.proofs.Staying as staying
use Rattle.laws_live.proofs.moves.ready_stays.Goals as goal

pub returns : goal.returns
returns c = staying.ready_stays
