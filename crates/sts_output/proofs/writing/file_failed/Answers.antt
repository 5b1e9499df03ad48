use Rattle.std.proofs.lemmas.Result.{IfOk-weaker}
use Rattle.sts_output.proofs.writing.file_failed.Goals as goal

pub returns : goal.returns
returns g c = IfOk-weaker c.failed.result _ _ (λ s h. (c.take_error.result, h)) c.failed.ensures
