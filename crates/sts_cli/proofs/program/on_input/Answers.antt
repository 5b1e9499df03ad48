use Rattle.std.proofs.Common.{refl, sym, subst}
use Rattle.std.proofs.lemmas.Result.{IfOk-weaker}
use Rattle.sts_cli.specs.Ending as def
use Rattle.sts_output.specs.Streams as streams
use Rattle.sts_output.specs.Output.{failure_output}
use Rattle.sts_output.specs.Taking.{IsTakenOf}
use Rattle.sts_cli.proofs.Ends.{of_input}
use Rattle.sts_cli.proofs.program.on_input.Goals as goal

pub returns-in-Ok : goal.returns-in-Ok
returns-in-Ok g c =
    let input = g.S.Sources.offered c.args.sources.now in
    let taken = subst (λ xs. IsTakenOf input streams.most_of_a_stream xs) (sym c.as_slice.ensures.value) c.in-Ok.ensures in
    IfOk-weaker c.play_input.result _ _ (λ s h. (h.0, of_input input _ h.0 taken h.1, h.2)) c.play_input.ensures

pub returns-in-Err : goal.returns-in-Err
returns-in-Err g c =
    IfOk-weaker c.file_failed.result _ _ (λ s h. (failure_output h.0, def.failed h.0 refl, h.1)) c.file_failed.ensures
