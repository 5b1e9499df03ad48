use Rattle.std.proofs.Common.{◌≡◌, ◌+◌, ◌-◌, ◌^◌, ◌≤◌, length, min, fold, arith, ap, ap₂, ◌∙◌}
use Rattle.std.proofs.lemmas.Result.{IfOk-weaker}
use Rattle.sts_model.specs.World.{opening}
use Rattle.sts_model.specs.Run.{after, taken}
use Rattle.sts_plain.specs.Seen.{Seen, after_event, shown}
use Rattle.sts_output.specs.Output as def
use Rattle.sts_output.proofs.RunLemmas.{seen_after, taken_few}
use Rattle.sts_output.proofs.modes.plain.run.Goals as goal

pub returns : goal.returns
returns c =
    let p = c.args.program.now in
    let events = c.args.events.now in
    let ran : c.apply_all.new.self ≡ record { program = p; state = after p events; steps = min (0 + taken p events) (2 ^ 64 - 1) } =
    c.in_ok-apply_all.ensures.ok ∙ ap (λ (s : Seen). fold after_event s events) c.in_ok-plain.ensures ∙ seen_after events p (opening p) 0 (omega arith) in
    let state_is : c.state.result ≡ shown (after p events) = c.state.ensures ∙ ap (λ (s : Seen). shown s.state) ran in
    let few : taken p events ≤ length events = taken_few events p (opening p) in
    let steps_is : c.steps.result ≡ taken p events = c.steps.ensures ∙ ap (λ (s : Seen). s.steps) ran ∙ omega arith in
    IfOk-weaker c.state_output.result _ _ (λ a h. h ∙ ap₂ (def.state_output p) state_is steps_is) c.state_output.ensures
