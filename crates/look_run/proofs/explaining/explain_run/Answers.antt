use Rattle.sts_output.proofs.StopLemmas.{written_or_memory}
use Rattle.look_run.proofs.explaining.explain_run.Goals as goal

pub returns : goal.returns
returns g c = written_or_memory c.explanation.result c.write_shown.result _ _ c.explanation.ensures c.write_shown.ensures
