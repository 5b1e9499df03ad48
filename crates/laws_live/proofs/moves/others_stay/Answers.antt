use Rattle.laws_live.proofs.Waking as waking
use Rattle.laws_live.proofs.moves.others_stay.Goals as goal

pub returns : goal.returns
returns c = waking.others_stay
