use Rattle.sts_types.proofs.ComparingLemmas.{is_same_entry}
use Rattle.sts_types.proofs.same.is_same_entry.Goals as goal

pub returns : goal.returns
returns c = is_same_entry c.args.a c.args.b c.eq.result c.eq.ensures
