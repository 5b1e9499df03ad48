use Rattle.std.proofs.Common.{ap, ap₂, ◌∙◌}
use Rattle.std.proofs.lemmas.Result.{IfOk-weaker}
use Rattle.sts_code.specs.Program.{Program}
use Rattle.sts_plain.specs.Seen.{ended_or_running}
use Rattle.sts_output.specs.Output as def
use Rattle.sts_cli.proofs.Runs.{shown_alike}
use Rattle.sts_cli.proofs.modes.replay.run.Goals as goal

pub returns : goal.returns
returns c =
    let m = c.in_ok-machine.machine in
    let alike = shown_alike m c.args.verified.now c.args.events.now c.in_ok-machine.ensures.program c.in_ok-machine.ensures.stands in
    let state_is = c.state_of-state.ensures ∙ ap ended_or_running c.root_end.ensures.seen ∙ alike.0 in
    let steps_is = c.steps-steps.ensures.seen ∙ alike.1 in
    IfOk-weaker c.state_output.result _ _
    (λ a h. def.accepted c.program.ensures.accepted (h ∙ ap
    (λ (q : Program). def.state_output q c.state_of-state.result c.steps-steps.result) c.program.ensures.value ∙ ap₂
    (def.state_output c.args.verified.now) state_is steps_is))
    c.state_output.ensures
