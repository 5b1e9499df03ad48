use Rattle.std.proofs.Common.{◌≡◌, Ok, subst, sym}
use Rattle.std.proofs.lemmas.Result.{IfOk-weaker}
use Rattle.sts_asm.specs.Text.{judged}
use Rattle.sts_trace.specs.Reading.{outside_read}
use Rattle.sts_cli.specs.Running.{OutsideRuns, TextRuns}
use Rattle.sts_cli.proofs.Reports.{told_as}
use Rattle.sts_cli.proofs.modes.run.outcome.Goals as goal

pub returns-in-Ok-clause-ran : goal.returns-in-Ok-clause-ran
returns-in-Ok-clause-ran g c =
    let p = c.in-Ok.program in
    let text = c.args.text.now in
    let outside = c.args.outside.now in
    let told : judged text ≡ Ok p = c.in-Ok.ensures in
    IfOk-weaker c.with_outside.result _ _
    (λ r h. told_as c.args.manner.kept (OutsideRuns p (outside_read outside)) (TextRuns (judged text) outside) r
    (λ o is. subst (λ x. TextRuns x outside o) (sym told) is) h)
    c.with_outside.ensures

pub returns-in-Ok-clause-fault : goal.returns-in-Ok-clause-fault
returns-in-Ok-clause-fault g c =
    IfOk-weaker c.with_outside.result _ _ (λ r h. rw c.in-Ok.ensures (λ none. none)) c.with_outside.ensures
