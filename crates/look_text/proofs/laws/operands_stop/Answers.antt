use Rattle.look_text.proofs.TextLemmas.{operands_stop}
use Rattle.look_text.proofs.laws.operands_stop.Goals as goal

pub returns : goal.returns
returns c = operands_stop
