use Rattle.look_refusal.proofs.Reading.{parts_apart}
use Rattle.look_refusal.proofs.laws.parts_read_apart.Goals as goal

pub returns : goal.returns
returns c = parts_apart
