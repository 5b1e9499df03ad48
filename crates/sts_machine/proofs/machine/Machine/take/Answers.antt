use Rattle.std.proofs.Common.{◌≡◌, ◌+◌, true, refl, sym, ◌∙◌, ap}
use Rattle.sts_model.specs.declared.event.Event.TheVariants as event
use Rattle.laws_live.specs.Run.{live_apply, live_steps_in}
use Rattle.laws_live.specs.Waiting.{live_can_step}
use Rattle.sts_machine.proofs.Outside.{expired, interrupted}
use Rattle.sts_machine.proofs.Turning.{asked, one_step}
use Rattle.sts_machine.proofs.machine.Machine.take.Goals as goal

pub take_step-requires : goal.take_step-requires
take_step-requires c =
    let now = c.args.self.now in
    asked now now c.args.event (event.Step c.in-Step.t) refl c.in-Step.is c.requires

pub interrupt-requires : goal.interrupt-requires
interrupt-requires c = asked _ _ c.args.event (event.Interrupt c.in-Interrupt.t) c.self.view_is c.in-Interrupt.is c.requires

pub invariant_of-self : goal.invariant_of-self
invariant_of-self c =
    interrupted c.self.inside.verified.now c.self.inside.store c.self.inside.steps c.self.invariant c.interrupt.new.self
    c.interrupt.ensures.unseen c.in-Interrupt.t c.interrupts_move_none.ensures c.interrupt.ensures.live

pub expire-requires : goal.expire-requires
expire-requires c = asked _ _ c.args.event (event.Expire c.in-Expire.s) c.self-in-Expire.view_is c.in-Expire.is c.requires

pub invariant_of-self-in-Expire : goal.invariant_of-self-in-Expire
invariant_of-self-in-Expire c =
    expired c.self-in-Expire.inside.verified.now c.self-in-Expire.inside.store c.self-in-Expire.inside.steps c.self-in-Expire.invariant c.expire.new.self
    c.expire.ensures.unseen c.in-Expire.s c.expiries_move_none.ensures c.expire.ensures.live

pub returns-in-Step-clause-live : goal.returns-in-Step-clause-live
returns-in-Step-clause-live c =
    let now = c.args.self.now in
    c.take_step.ensures.live ∙ ap (live_apply now.program now.live) (sym c.in-Step.is)

pub returns-in-Step-clause-steps : goal.returns-in-Step-clause-steps
returns-in-Step-clause-steps c =
    let now = c.args.self.now in
    let can : live_can_step now.program now.live c.in-Step.t ≡ true = asked now now c.args.event (event.Step c.in-Step.t) refl c.in-Step.is c.requires in
    let one = ap (live_steps_in now.program now.live) c.in-Step.is ∙ one_step now.program now.live c.in-Step.t can in
    c.take_step.ensures.steps ∙ sym (ap (λ k. now.steps + k) one)
