use Rattle.std.proofs.Common.{arith, inr, refl, sym, subst}
use Rattle.std.proofs.lemmas.Result.{IfOk-weaker}
use Rattle.sts_asm.specs.Text.{judged}
use Rattle.sts_output.specs.Kept.{KeepsFault}
use Rattle.sts_output.specs.Output.{memory_output}
use Rattle.sts_cli.specs.Running.{alone}
use Rattle.sts_cli.proofs.Reports.{printed_ran}
use Rattle.sts_cli.proofs.playing.play_untraced.Goals as goal

pub returns-in-Ok-clause-output : goal.returns-in-Ok-clause-output
returns-in-Ok-clause-output g c =
    IfOk-weaker c.print_ran.result _ _ (λ s h. printed_ran _ _ _ _ s _ _ c.in-Ok.ensures.ran h) c.print_ran.ensures.output

pub returns-in-Err-clause-output : goal.returns-in-Err-clause-output
returns-in-Err-clause-output g c =
    IfOk-weaker c.failed.result _ _ (λ s h. (alone memory_output, inr refl, h)) c.failed.ensures

pub returns-in-Ok-clause-fault : goal.returns-in-Ok-clause-fault
returns-in-Ok-clause-fault g c =
    IfOk-weaker c.print_ran.result _ _
    (λ s h three. (
      subst (KeepsFault (judged c.args.job.text.now) c.args.aside.now.assembled) (sym c.print_ran.ensures.kept) c.in-Ok.ensures.fault,
      c.print_ran.ensures.written,
    ))
    c.print_ran.ensures.output

pub returns-in-Err-clause-fault : goal.returns-in-Err-clause-fault
returns-in-Err-clause-fault g c =
    IfOk-weaker c.failed.result _ _ (λ s h three. absurd (omega (arith, three, h.0))) c.failed.ensures
