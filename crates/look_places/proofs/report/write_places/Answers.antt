use Rattle.sts_output.proofs.StopLemmas.{written_or_memory}
use Rattle.look_places.proofs.report.write_places.Goals as goal

pub returns : goal.returns
returns g c = written_or_memory c.report.result c.write_shown.result _ _ c.report.ensures c.write_shown.ensures
