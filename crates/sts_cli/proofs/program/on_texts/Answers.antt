use Rattle.std.proofs.Common.{arith, refl, subst}
use Rattle.std.proofs.lemmas.Result.{IfOk-weaker}
use Rattle.sts_asm.specs.Text.{judged}
use Rattle.sts_cli.specs.Aside.{LeavesFault}
use Rattle.sts_cli.specs.Ending as def
use Rattle.sts_output.specs.Output.{failure_output}
use Rattle.sts_output.specs.Streams.{same_file}
use Rattle.sts_output.proofs.StopLemmas.{failure_status}
use Rattle.sts_cli.proofs.Reports.{printed_alone, printed_of}
use Rattle.sts_cli.proofs.program.on_texts.Goals as goal

pub returns-in-None-clause-output : goal.returns-in-None-clause-output
returns-in-None-clause-output g c =
    let sinks = same_file (g.S.Sinks.same c.args.sinks.now) (g.S.Sinks.said_yes c.args.sinks.now) (g.S.Sinks.said_yes c.args.sinks.now) in
    let spares : def.Spares sinks c.args.wanted.file.now c.args.wanted.outside c.args.wanted.trace = rw c.in-None.is tt in
    IfOk-weaker c.play_untraced.result _ _
    (λ s h. printed_alone _ _ _ _ _ _ _ s h.0 spares c.as_slice-program.ensures.value c.as_slice-outside.ensures.value h.1 h.2)
    c.play_untraced.ensures.output

pub returns-in-Ok-clause-output : goal.returns-in-Ok-clause-output
returns-in-Ok-clause-output g c =
    let sinks = same_file (g.S.Sinks.same c.args.sinks.now) (g.S.Sinks.said_yes c.args.sinks.now) (g.S.Sinks.said_yes c.made.new.sinks) in
    let spares : def.Spares sinks c.args.wanted.file.now c.args.wanted.outside c.args.wanted.trace =
    rw c.in-Some.is (c.in-Ok.ensures.said, c.in-Ok.ensures.file, c.in-Ok.ensures.outside) in
    IfOk-weaker c.play_traced.result _ _
    (λ s h. printed_of _ _ _ _ _ _ s h.0 spares c.as_slice-program.ensures.value c.as_slice-outside.ensures.value h.1 h.2)
    c.play_traced.ensures.output

pub returns-in-Err-clause-output : goal.returns-in-Err-clause-output
returns-in-Err-clause-output g c =
    IfOk-weaker c.file_failed.result _ _ (λ s h. (failure_output h.0, def.without_file h.0 refl, h.1)) c.file_failed.ensures

pub returns-in-None-clause-fault : goal.returns-in-None-clause-fault
returns-in-None-clause-fault g c =
    IfOk-weaker c.play_untraced.result _ _
    (λ s h. subst (λ t. LeavesFault s (judged t) c.args.aside.now c.play_untraced.new.aside) c.as_slice-program.ensures.value h)
    c.play_untraced.ensures.fault

pub returns-in-Ok-clause-fault : goal.returns-in-Ok-clause-fault
returns-in-Ok-clause-fault g c =
    IfOk-weaker c.play_traced.result _ _
    (λ s h. subst (λ t. LeavesFault s (judged t) c.args.aside.now c.play_traced.new.aside) c.as_slice-program.ensures.value h)
    c.play_traced.ensures.fault

pub returns-in-Err-clause-fault : goal.returns-in-Err-clause-fault
returns-in-Err-clause-fault g c =
    IfOk-weaker c.file_failed.result _ _
    (λ s h three. absurd (omega (arith, three, h.1.0, failure_status h.0)))
    c.file_failed.ensures

pub returns-in-None-clause-notes : goal.returns-in-None-clause-notes
returns-in-None-clause-notes g c = IfOk-weaker c.play_untraced.result _ _ (λ s h three. refl) c.play_untraced.ensures.fault

pub returns-in-Ok-clause-notes : goal.returns-in-Ok-clause-notes
returns-in-Ok-clause-notes g c = IfOk-weaker c.play_traced.result _ _ (λ s h three. refl) c.play_traced.ensures.fault

pub returns-in-Err-clause-notes : goal.returns-in-Err-clause-notes
returns-in-Err-clause-notes g c =
    IfOk-weaker c.file_failed.result _ _
    (λ s h three. absurd (omega (arith, three, h.1.0, failure_status h.0)))
    c.file_failed.ensures
