use Rattle.sts_output.proofs.StopLemmas.{written_or_memory}
use Rattle.look_places.proofs.named.write_named.Goals as goal

pub returns : goal.returns
returns g c = written_or_memory c.named_of.result c.write_shown.result _ _ c.named_of.ensures c.write_shown.ensures
