use Rattle.laws_live.proofs.Safe as safe
use Rattle.laws_live.proofs.moves.turns_are_safe.Goals as goal

pub returns : goal.returns
returns c = safe.turns_are_safe
