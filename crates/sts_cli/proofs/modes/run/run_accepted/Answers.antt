use Rattle.std.proofs.lemmas.Result.{IfOk-weaker}
use Rattle.sts_cli.specs.Running as def
use Rattle.sts_cli.proofs.Reports.{reported_run, whole_told}
use Rattle.sts_cli.proofs.modes.run.run_accepted.Goals as goal

pub returns-in-Ok : goal.returns-in-Ok
returns-in-Ok g c =
    let lines = c.in_ok-budgets.ensures in
    IfOk-weaker c.reported.result _ _
    (λ r h. reported_run c.args.manner.kept c.args.verified.now c.args.dues _ c.in-Ok.report r lines.accepted lines c.requires.few c.in-Ok.ensures.report h)
    c.reported.ensures

pub returns-in-Err : goal.returns-in-Err
returns-in-Err g c =
    IfOk-weaker c.unreported.result _ _
    (λ r h. whole_told c.args.manner.kept (def.IsRun c.args.verified.now c.args.dues) r (def.failed c.in_ok-budgets.ensures.accepted c.in-Err.error h))
    c.unreported.ensures
