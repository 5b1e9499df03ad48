use Rattle.sts_output.proofs.StopLemmas.{written_or_memory}
use Rattle.look_refusal.proofs.explaining.explain.Goals as goal

pub returns : goal.returns
returns g c = written_or_memory c.explained.result c.write_shown.result _ _ c.explained.ensures c.write_shown.ensures
