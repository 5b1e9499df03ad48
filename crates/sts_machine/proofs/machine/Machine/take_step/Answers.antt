use Rattle.std.proofs.Common.{◌≡◌, ◌+◌, true, Some, get_or, refl, sym, ◌∙◌, ap, subst, arith, pos}
use Rattle.sts_code.specs.declared.instr.Instr.{Instr}
use Rattle.sts_code.specs.declared.instr.Instr.TheVariants.{Push}
use Rattle.sts_model.specs.declared.event.Event.TheVariants as event
use Rattle.sts_model.specs.World.{code, instr_at}
use Rattle.laws_live.specs.Run.{live_apply}
use Rattle.laws_live.specs.Waiting.{live_can_step}
use Rattle.sts_store.specs.Parts.{frame_of, live_of}
use Rattle.laws_live.specs.Order.{InOrder}
use Rattle.sts_machine.specs.Machine.{Seen}
use Rattle.sts_machine.proofs.Turning.{asked, has_function, within, at_hand, stepped, one_step, ordered, ordered_after, next, fine, has_room, few_steps, moved}
use Rattle.sts_machine.proofs.machine.Machine.take_step.Goals as goal
use Rattle.sts_machine.proofs.machine.Machine.take_step.Goals.{After-program-program, After-code_there-code, After-perform-can_step}

-- the task can step, so it has a next instruction
can : (c : After-program-program) → live_can_step c.self.inside.verified.now (live_of c.self.inside.store) c.args.t ≡ true
can c = asked _ _ (event.Step c.args.t) (event.Step c.args.t) c.self.view_is refl c.requires

there : (c : After-program-program) → (i : Instr) × (instr_at c.self.inside.verified.now (frame_of c.self.inside.store c.args.t) ≡ Some i)
there c = next c.self.inside.verified.now c.self.inside.store c.self.inside.steps c.self.invariant c.args.t (can c)

-- it is the one that is read
here : (c : After-code_there-code) → instr_at c.self.inside.verified.now (frame_of c.self.inside.store c.args.t) ≡ Some (get_or c.code_there-code.result.now c.frame-frame.result.now.pc (Push (pos 0)))
here c =
    at_hand c.self.inside.verified.now _ (frame_of c.self.inside.store c.args.t) _ _ c.program-program.ensures.value c.frame-frame.ensures
    c.code_there-code.ensures.value (there (goal.at.After-code_there-code c).After-program-program) (Push (pos 0))

-- what the step does to the view
live : (c : After-perform-can_step) → live_of c.perform-can_step.new.store ≡ live_apply c.self.inside.verified.now (live_of c.self.inside.store) (event.Step c.args.t)
live c =
    let known = goal.at.After-perform-can_step c in
    (rw c.program-program.ensures.value at c.perform-can_step.ensures.live)
    ∙ sym (stepped c.self.inside.verified.now (live_of c.self.inside.store) c.args.t _ (can known.After-program-program) (here known.After-code_there-code))

pub code_there-code-requires : goal.code_there-code-requires
code_there-code-requires c =
    has_function c.self.inside.verified.now _ (frame_of c.self.inside.store c.args.t) _ c.program-program.ensures.value c.frame-frame.ensures
    (there (goal.at.code_there-code-requires c).After-program-program)

pub bounds-code-frame : goal.bounds-code-frame
bounds-code-frame c =
    within c.self.inside.verified.now _ (frame_of c.self.inside.store c.args.t) _ _ c.program-program.ensures.value c.frame-frame.ensures
    c.code_there-code.ensures.value (there (goal.at.bounds-code-frame c).After-program-program)

pub perform-can_step-requires-clause-at : goal.perform-can_step-requires-clause-at
perform-can_step-requires-clause-at c =
    ap (λ r. instr_at r (frame_of c.self.inside.store c.args.t)) c.program-program.ensures.value
    ∙ here (goal.at.perform-can_step-requires-clause-at c).After-code_there-code

pub perform-can_step-requires-clause-own_code : goal.perform-can_step-requires-clause-own_code
perform-can_step-requires-clause-own_code c = c.code_there-code.ensures.value ∙ ap (code c.program-program.result.now) c.frame-frame.ensures

pub perform-can_step-requires-clause-fine : goal.perform-can_step-requires-clause-fine
perform-can_step-requires-clause-fine c =
    let known = goal.at.perform-can_step-requires-clause-fine c in
    rw c.program-program.ensures.value
    (fine c.self.inside.verified.now c.self.inside.store c.self.inside.steps c.self.invariant c.args.t _ (can known.After-program-program)
    (here known.After-code_there-code))

pub perform-can_step-requires-clause-room : goal.perform-can_step-requires-clause-room
perform-can_step-requires-clause-room c =
    let known = goal.at.perform-can_step-requires-clause-room c in
    has_room c.self.inside.verified.now c.self.inside.store c.self.inside.steps c.self.invariant c.args.t _ (can known.After-program-program)
    (here known.After-code_there-code)

pub perform-can_step-requires-clause-order : goal.perform-can_step-requires-clause-order
perform-can_step-requires-clause-order c = ordered c.self.inside.verified.now c.self.inside.store c.self.inside.steps c.self.invariant

pub perform-can_step-requires-clause-after : goal.perform-can_step-requires-clause-after
perform-can_step-requires-clause-after c =
    let p = c.self.inside.verified.now in
    let m = c.self.inside.store in
    let known = goal.at.perform-can_step-requires-clause-after c in
    rw c.program-program.ensures.value
    (subst InOrder (stepped p (live_of m) c.args.t _ (can known.After-program-program) (here known.After-code_there-code))
    (ordered_after p m c.self.inside.steps c.self.invariant (event.Step c.args.t)))

pub overflow_add-self : goal.overflow_add-self
overflow_add-self c =
    let few = few_steps c.self.inside.verified.now c.self.inside.store c.self.inside.steps c.self.invariant in
    omega (arith, few)

pub invariant_of-self : goal.invariant_of-self
invariant_of-self c =
    let p = c.self.inside.verified.now in
    let n = c.self.inside.steps in
    let known = goal.at.invariant_of-self c in
    let one = one_step p (live_of c.self.inside.store) c.args.t (can known.After-program-program) in
    moved p c.self.inside.store n c.self.invariant (event.Step c.args.t) c.perform-can_step.new.store (n + 1)
    (live known.After-perform-can_step) (sym (ap (λ k. n + k) one))
    (rw c.program-program.ensures.value at c.perform-can_step.ensures.standing) c.perform-can_step.ensures.room

pub returns-clause-live : goal.returns-clause-live
returns-clause-live c =
    live (goal.at.returns-clause-live c).After-perform-can_step ∙ ap (λ (s : Seen). live_apply s.program s.live (event.Step c.args.t)) c.self.view_is

pub returns-clause-steps : goal.returns-clause-steps
returns-clause-steps c = ap (λ (s : Seen). s.steps + 1) c.self.view_is

pub returns-clause-can_step : goal.returns-clause-can_step
returns-clause-can_step c = rw c.program-program.ensures.value at c.perform-can_step.ensures.can_step
