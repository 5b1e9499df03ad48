use Rattle.std.proofs.Common.{ap, ◌∙◌}
use Rattle.std.proofs.lemmas.Result.{IfOk-weaker}
use Rattle.std.specs.Prelude.{is_some}
use Rattle.sts_pool.proofs.Asking.{error_given, opened_written, report_given}
use Rattle.sts_pool.proofs.workers.run_with_journal.Goals as goal

pub returns-clause-report : goal.returns-clause-report
returns-clause-report g c =
    let left = c.in_ok-left in
    let book = c.in-Ok-with_journal.ensures in
    let ours = left.ensures.program ∙ book.program in
    let written = left.ensures.written ∙ (ap is_some book.journal ∙ opened_written c.args.is_written) in
    report_given g.O.Outside.gives c.args.outside left.left.book c.args.verified.now c.args.is_written c.report.result ours written left.ensures.given
    c.report.ensures.report c.report.ensures.journal

pub returns-clause-workers : goal.returns-clause-workers
returns-clause-workers g c =
    let left = c.in_ok-left in
    IfOk-weaker c.report.result _ _ (λ r told. told ∙ (left.ensures.workers ∙ search)) c.report.ensures.workers

pub returns-clause-unfinished : goal.returns-clause-unfinished
returns-clause-unfinished g c =
    let left = c.in_ok-left in
    let ours = left.ensures.program ∙ c.in-Ok-with_journal.ensures.program in
    error_given g.O.Outside.gives c.args.outside left.left.book c.args.verified.now c.report.result ours left.ensures.given c.report.ensures.unfinished
