use Rattle.std.proofs.Common.{◌≡◌, ◌+◌, ◌∙◌, List, sym, refl, drop, true}
use Rattle.std.proofs.lemmas.List.{at_drop_all}
use Rattle.sts_model.specs.declared.event.Event.{Event}
use Rattle.sts_plain.specs.Seen.{is_fault}
use Rattle.sts_remarks.specs.Idle.{first_idle}
use Rattle.sts_remarks.proofs.Events.{first_idle-fault}
use Rattle.sts_remarks.proofs.idle.first_idle_after.Goals as goal

pub returns-in_default : goal.returns-in_default
returns-in_default c =
    let faulted : is_fault c.loop-i.position ≡ true = cc (c.in_default.ensures.fault refl) in
    sym (first_idle-fault c.args.unit.now c.args.program.now c.loop-i.position (c.loop-i.i + 1) (drop c.loop-i.i c.args.events.now) faulted)
    ∙ c.loop-i.invariant

pub loop-i-init : goal.loop-i-init
loop-i-init c = refl

pub returns : goal.returns
returns c =
    sym (at_drop_all (λ (es : List Event). first_idle c.args.unit.now c.args.program.now c.loop-i.position (c.loop-i.i + 1) es)
    c.args.events.now c.loop-i.i c.loop-i-test.false)
    ∙ c.loop-i.invariant
