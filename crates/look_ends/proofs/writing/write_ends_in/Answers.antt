use Rattle.std.proofs.Common.{inr, refl}
use Rattle.std.proofs.lemmas.Result.{IfOk-weaker}
use Rattle.sts_output.specs.Output.{memory_output}
use Rattle.look_ends.specs.Listing.{alone}
use Rattle.look_ends.proofs.writing.write_ends_in.Goals as goal

pub returns-in-Err : goal.returns-in-Err
returns-in-Err g c = IfOk-weaker c.failed.result _ _ (λ s h. (alone memory_output, inr refl, h)) c.failed.ensures
