use Rattle.sts_types.proofs.ComparingLemmas.{are_same_slots}
use Rattle.sts_types.proofs.same.are_same_slots.Goals as goal

pub returns : goal.returns
returns c = are_same_slots c.args.a.now c.args.b.now c.eq.result c.eq.ensures
