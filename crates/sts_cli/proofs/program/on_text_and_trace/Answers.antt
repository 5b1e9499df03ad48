use Rattle.std.proofs.Common.{refl, sym, subst}
use Rattle.std.proofs.lemmas.Result.{IfOk-weaker}
use Rattle.sts_cli.specs.Ending as def
use Rattle.sts_output.specs.Streams as streams
use Rattle.sts_output.specs.Output.{failure_output}
use Rattle.sts_output.specs.Taking.{IsTakenOf}
use Rattle.sts_cli.proofs.Ends.{of_text_and_trace}
use Rattle.sts_cli.proofs.program.on_text_and_trace.Goals as goal

pub returns-in-Ok : goal.returns-in-Ok
returns-in-Ok g c =
    let file = g.S.Sources.held c.args.sources.now c.args.path.now in
    let trace_file = g.S.Sources.held c.args.sources.now c.args.trace.now in
    let taken = subst (λ xs. IsTakenOf file streams.most_of_a_text xs) (sym c.as_slice-text.ensures.value) c.in-Ok.ensures.program in
    let traced = subst (λ xs. IsTakenOf trace_file streams.most_of_a_stream xs) (sym c.as_slice-events.ensures.value) c.in-Ok.ensures.events in
    IfOk-weaker c.play_trace.result _ _ (λ s h. (h.0, of_text_and_trace c.args.mode file trace_file _ _ h.0 taken traced h.1, h.2)) c.play_trace.ensures.output

pub returns-in-Err : goal.returns-in-Err
returns-in-Err g c =
    IfOk-weaker c.file_failed.result _ _ (λ s h. (failure_output h.0, def.failed h.0 refl, h.1)) c.file_failed.ensures
