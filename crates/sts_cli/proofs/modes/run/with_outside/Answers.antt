use Rattle.std.proofs.Common.{◌≡◌, Ok, ap, subst, sym, ◌∙◌}
use Rattle.std.proofs.lemmas.Result.{IfOk-weaker}
use Rattle.sts_trace.specs.Reading.{outside_read}
use Rattle.sts_cli.specs.Running.{IsRun, OutsideRuns}
use Rattle.sts_cli.proofs.Reports.{told_as}
use Rattle.sts_cli.proofs.modes.run.with_outside.Goals as goal

pub returns-in-Ok : goal.returns-in-Ok
returns-in-Ok g c =
    let p = c.args.program in
    let dues = c.new.result in
    let outside = c.args.outside.now in
    let read : outside_read outside ≡ Ok c.in-Ok.dues.items = c.in-Ok.ensures.exact in
    let given : outside_read outside ≡ Ok dues = read ∙ ap Ok (sym c.new.ensures) in
    IfOk-weaker c.verdict.result _ _
    (λ r h. told_as c.args.manner.kept (IsRun p dues) (OutsideRuns p (outside_read outside)) r (λ o is. subst (λ x. OutsideRuns p x o) (sym given) is) h)
    c.verdict.ensures
