use Rattle.std.proofs.Common.{◌≡◌, ◌==◌, ◌∷◌, [], true, false, vec_capacity, refl, sym, ◌∙◌}
use Rattle.std.specs.List.{list_any}
use Rattle.sts_model.specs.declared.event.Event.TheVariants as event
use Rattle.laws_live.specs.Waiting.{live_can_step}
use Rattle.sts_pool.proofs.Books.{idle_from, idle_no_turn, out_no_turn, stepped_from, turns}
use Rattle.sts_pool.proofs.Kept.{Grows, none_outside, one_step, records, step_grows, told_turn}
use Rattle.sts_pool.proofs.book.Book.turn.Goals as goal
use Rattle.sts_pool.proofs.book.Book.turn.Goals.{In-Stepped}

-- the task isn't out, and could step
absent : (c : In-Stepped) → list_any (λ o. o == c.args.task) c.self.inside.out.items ≡ false
absent c = rw (← c.as_slice.ensures.value) (sym c.is_among.ensures ∙ c.if-is_among.false)

can : (c : In-Stepped) → live_can_step c.self.inside.machine.program c.self.inside.machine.live c.args.task ≡ true
can c = stepped_from _ (sym c.in-Stepped.is ∙ c.turn.ensures.answer)

grown : (c : In-Stepped) → Grows c.self.inside.journal (event.Step c.args.task ∷ []) c.turn.new.self c.self.inside.outside c.self.inside.out.items (vec_capacity c.self.inside.out)
grown c =
    let b = c.self.inside in
    let turn = c.turn.ensures in
    step_grows b.machine c.turn.new.self b.journal b.outside b.out.items _ c.args.task c.self.invariant turn.program turn.stands turn.live
    turn.steps (can c) (absent c)

pub returns-then-is_among-clause-turned : goal.returns-then-is_among-clause-turned
returns-then-is_among-clause-turned c =
    let b = c.self.inside in
    let out : list_any (λ o. o == c.args.task) b.out.items ≡ true = rw (← c.as_slice.ensures.value) (sym c.is_among.ensures ∙ c.if-is_among.true) in
    told_turn b.machine b.journal b.outside b.out.items _ c.args.self.now c.args.task false c.self.view_is c.self.invariant
    (λ events stands. out_no_turn _ _ out)

pub push-requires : goal.push-requires
push-requires c = (grown (goal.at.push-requires c).In-Stepped).fits 1 refl

pub invariant_of-self-in-Stepped : goal.invariant_of-self-in-Stepped
invariant_of-self-in-Stepped c = (grown (goal.at.invariant_of-self-in-Stepped c).In-Stepped).kept c.push.new.self c.push.ensures

pub returns-in-Idle-clause-turned : goal.returns-in-Idle-clause-turned
returns-in-Idle-clause-turned c =
    let b = c.self.inside in
    told_turn b.machine b.journal b.outside b.out.items _ c.args.self.now c.args.task false c.self.view_is c.self.invariant
    (λ events stands. idle_no_turn _ _ (idle_from _ (sym c.in-Idle.is ∙ c.turn.ensures.counted events stands)))

pub returns-in-Stepped-clause-turned : goal.returns-in-Stepped-clause-turned
returns-in-Stepped-clause-turned c =
    let b = c.self.inside in
    let beside = absent (goal.at.returns-in-Stepped-clause-turned c).In-Stepped in
    told_turn b.machine b.journal b.outside b.out.items _ c.args.self.now c.args.task true c.self.view_is c.self.invariant
    (λ events stands. turns _ _ (stepped_from _ (sym c.in-Stepped.is ∙ c.turn.ensures.counted events stands)) beside)

pub returns-in-Stepped-clause-journal : goal.returns-in-Stepped-clause-journal
returns-in-Stepped-clause-journal c = λ stepped.
    let b = c.self.inside in
    let m = b.machine in
    let could = can (goal.at.returns-in-Stepped-clause-journal c).In-Stepped in
    let one = one_step m.program m.live c.args.task m.steps c.turn.new.self.steps c.turn.ensures.steps could in
    records m c.turn.new.self b.journal c.push.new.self b.outside b.outside b.out.items b.out.items _ c.args.self.now c.self.view_is
    c.push.ensures one (none_outside 1 c.args.task b.outside) c.turn.ensures.stands
