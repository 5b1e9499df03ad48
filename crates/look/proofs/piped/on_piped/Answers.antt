use Rattle.std.proofs.Common.{sym, subst}
use Rattle.std.proofs.KnownBytes.{Keeps-refl}
use Rattle.std.proofs.lemmas.Result.{IfOk-weaker}
use Rattle.sts_output.specs.Streams.{most_of_a_text}
use Rattle.sts_output.specs.Taking.{IsTakenOf}
use Rattle.look.specs.Piping as def
use Rattle.look.proofs.piped.on_piped.Goals as goal

pub returns-in-Ok : goal.returns-in-Ok
returns-in-Ok g c =
    let file = g.S.Sources.held c.args.sources.now c.args.piped.file.now in
    let taken = subst (λ xs. IsTakenOf file most_of_a_text xs) (sym c.as_slice.ensures.value) c.in-Ok.ensures in
    IfOk-weaker c.on_piped_text.result _ _ (λ s h. def.of_text _ taken h) c.on_piped_text.ensures

pub returns-in-Err : goal.returns-in-Err
returns-in-Err g c =
    IfOk-weaker c.file_failed.result _ _ (λ s h. def.failed h.0 (record { told = h.1; kept = Keeps-refl _ })) c.file_failed.ensures
