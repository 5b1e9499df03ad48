use Rattle.sts_cli.specs.Running.{IsRun}
use Rattle.sts_cli.proofs.Reports.{refused_run, whole_told}
use Rattle.sts_cli.proofs.modes.run.verdict.Goals as goal

pub returns-in-Err : goal.returns-in-Err
returns-in-Err g c =
    whole_told c.args.manner.kept (IsRun c.args.program c.args.dues) c.alone.result
    (refused_run c.args.program c.args.dues c.in_ok-verified.field-0 c.in-Err.refusal c.alone.result c.in_ok-verified.ensures c.in-Err.is c.alone.ensures)
