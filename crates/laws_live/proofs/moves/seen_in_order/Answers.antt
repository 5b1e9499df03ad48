use Rattle.laws_live.proofs.Order as order
use Rattle.laws_live.proofs.moves.seen_in_order.Goals as goal

pub returns : goal.returns
returns c = order.seen_in_order
