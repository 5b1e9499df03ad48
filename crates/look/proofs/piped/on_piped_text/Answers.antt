use Rattle.std.proofs.Common.{inl}
use Rattle.std.proofs.KnownBytes.{Keeps-refl}
use Rattle.std.proofs.lemmas.Result.{IfOk-weaker}
use Rattle.sts_output.specs.declared.taking.TakeError.TheVariants.{Memory}
use Rattle.look.specs.Piping as def
use Rattle.look.proofs.piped.on_piped_text.Goals as goal

pub returns-in_ok-status-in-Ok : goal.returns-in_ok-status-in-Ok
returns-in_ok-status-in-Ok g c = def.listed c.in-Ok.listing (inl c.in-Ok.ensures) c.in_ok-status-in-Ok.ensures

pub returns-in-Err : goal.returns-in-Err
returns-in-Err g c =
    IfOk-weaker c.failed.result _ _ (λ s h. def.without Memory (record { told = h; kept = Keeps-refl _ })) c.failed.ensures
