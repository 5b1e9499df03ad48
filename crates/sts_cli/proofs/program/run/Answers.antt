use Rattle.std.proofs.KnownBytes.{Keeps-refl}
use Rattle.std.proofs.lemmas.Result.{IfOk-weaker}
use Rattle.sts_cli.specs.Ending as def
use Rattle.sts_cli.proofs.program.run.Goals as goal

pub returns-in-Ok : goal.returns-in-Ok
returns-in-Ok g c =
    IfOk-weaker c.on_line.result _ _
    (λ s h. def.played c.in-Ok.wanted h.0 c.in-Ok.ensures.asked h.1 (record { written = h.2; kept = Keeps-refl _ }))
    c.on_line.ensures

pub returns-in-Err : goal.returns-in-Err
returns-in-Err g c = c.on_error.ensures _ _ _ _ c.in-Err.ensures.refused
