use Rattle.std.proofs.Common.{refl}
use Rattle.std.proofs.lemmas.Result.{IfOk-weaker}
use Rattle.sts_cli.specs.Ending as def
use Rattle.sts_output.specs.Streams as streams
use Rattle.sts_output.specs.Output.{failure_output}
use Rattle.sts_cli.proofs.Reports.{of_texts}
use Rattle.sts_cli.proofs.program.on_run.Goals as goal

pub returns-in-Ok : goal.returns-in-Ok
returns-in-Ok g c =
    let sources = c.args.sources.now in
    let file = g.S.Sources.held sources c.args.wanted.file.now in
    let outside = streams.events_of (g.S.Sources.held sources) c.args.wanted.outside in
    IfOk-weaker c.run_texts.result _ _
    (λ s h. (h.0, of_texts _ file outside _ _ h.0 c.in-Ok.ensures.program c.in-Ok.ensures.events h.1, h.2))
    c.run_texts.ensures.output

pub returns-in-Err : goal.returns-in-Err
returns-in-Err g c =
    IfOk-weaker c.file_failed.result _ _ (λ s h. (failure_output h.0, def.failed h.0 refl, h.1)) c.file_failed.ensures
