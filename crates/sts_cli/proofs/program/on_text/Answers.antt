use Rattle.std.proofs.Common.{refl, sym, subst}
use Rattle.std.proofs.lemmas.Result.{IfOk-weaker}
use Rattle.sts_cli.specs.Ending as def
use Rattle.sts_output.specs.Streams as streams
use Rattle.sts_output.specs.Output.{failure_output}
use Rattle.sts_output.specs.Taking.{IsTakenOf}
use Rattle.sts_cli.proofs.Ends.{of_text}
use Rattle.sts_cli.proofs.program.on_text.Goals as goal

pub returns-in-Ok : goal.returns-in-Ok
returns-in-Ok g c =
    let file = g.S.Sources.held c.args.sources.now c.args.path.now in
    let taken = subst (λ xs. IsTakenOf file streams.most_of_a_text xs) (sym c.as_slice-bytes.ensures.value) c.in-Ok.ensures in
    IfOk-weaker c.play_text.result _ _ (λ s h. (h.0, of_text c.args.mode file _ h.0 taken h.1, h.2)) c.play_text.ensures.output

pub returns-in-Err : goal.returns-in-Err
returns-in-Err g c =
    IfOk-weaker c.file_failed.result _ _ (λ s h. (failure_output h.0, def.failed h.0 refl, h.1)) c.file_failed.ensures
