use Rattle.sts_output.proofs.StopLemmas.{kept_if_fault, written_or_memory}
use Rattle.look_picture.proofs.picture.draw.Goals as goal

pub returns-clause-output : goal.returns-clause-output
returns-clause-output g c = written_or_memory c.of_text.result c.write_shown.result _ _ c.of_text.ensures.output c.write_shown.ensures

pub returns-clause-fault : goal.returns-clause-fault
returns-clause-fault g c = kept_if_fault _ c.of_text.result c.write_shown.result _ _ c.of_text.ensures.fault c.write_shown.ensures
