use Rattle.std.proofs.Common.{◌≡◌, ◌+◌, ◌<◌, true, false, sym, ◌∙◌, refl, arith}
use Rattle.look_refusal.specs.Search.{flow}
use Rattle.look_refusal.specs.Trail.{sum_in}
use Rattle.look_refusal.proofs.Backwards.{under_none, from_is, ends_turn_at, loop_total, turns_fit, body_fits, head_fits, straight_fits}
use Rattle.look_refusal.proofs.Backwards.{straight_step, loop_step, skip_step, begins}
use Rattle.look_refusal.proofs.walk.+back.Goals as goal

pub loop-from-init : goal.loop-from-init
loop-from-init t c = under_none c.args.search.now c.requires.ready c.args.trail.now c.requires.trail
    c.args.times c.args.to c.args.shares.now c.requires.spot c.requires.places c.requires.parts

pub overflow_mul-turns : goal.overflow_mul-turns
overflow_mul-turns t c =
    let e = sym c.before-in-loop-from.ensures ∙ c.in-Some.is in
    let many = turns_fit c.args.search.now c.requires.ready c.args.trail.now c.requires.trail _ _ _ _ _ _ _
    c.loop_to-around.ensures.right c.loop_to-around.ensures.end c.loop-from.invariant c.requires.fits e (c.turn_adds.ensures.0 c.if-turn_adds.true) in
    omega (arith, many)

pub back_to-end-requires-clause-fits : goal.back_to-end-requires-clause-fits
back_to-end-requires-clause-fits t c =
    let e = sym c.before-in-loop-from.ensures ∙ c.in-Some.is in
    let total = loop_total c.args.search.now c.requires.ready c.args.trail.now c.requires.trail _ _ _ _ _ _ _
    c.loop_to-around.ensures.right c.loop_to-around.ensures.end c.loop-from.invariant c.requires.fits e in
    omega (arith, total)

pub back-requires : goal.back-requires
back-requires t c =
    let e = sym c.before-in-loop-from.ensures ∙ c.in-Some.is in
    let f = from_is c.args.search.now c.requires.ready c.args.trail.now c.requires.trail _ _ c.loop-from.invariant.spot e in
    let turning = ends_turn_at c.args.search.now c.requires.ready c.args.trail.now c.requires.trail _ _ _ _ true
    c.loop-from.invariant.spot e c.ends_turn.ensures c.if-ends_turn.true in
    let b = body_fits c.args.search.now c.requires.ready c.args.trail.now c.requires.trail _ _ _ _ _ _ _ _ _
    c.loop_to-around.ensures.right c.loop_to-around.ensures.end c.loop-from.invariant c.requires.fits e turning c.back_to-end.ensures.step in
    let place = c.back_to-end.ensures.step.place in
    let long = c.back_to-end.ensures.step.raised.long ∙ c.loop-from.invariant.long in
    (omega (arith, place, f.0, c.loop-from.invariant.low), (c.requires.ready, (c.requires.trail, (b.0, (long, (c.back_to-end.ensures.parts, b.1))))))

pub back_to-requires-clause-fits : goal.back_to-requires-clause-fits
back_to-requires-clause-fits t c =
    let e = sym c.before-in-loop-from.ensures ∙ c.in-Some.is in
    let turning = ends_turn_at c.args.search.now c.requires.ready c.args.trail.now c.requires.trail _ _ _ _ true
    c.loop-from.invariant.spot e c.ends_turn.ensures c.if-ends_turn.true in
    head_fits c.args.search.now c.requires.ready c.args.trail.now c.requires.trail _ _ _ _ _ _ _ _ _ _ _
    c.loop_to-around.ensures.right c.loop_to-around.ensures.end c.loop-from.invariant c.requires.fits e turning c.back_to-end.ensures.step c.back.ensures

pub back_to-requires-else-turn_adds-clause-fits : goal.back_to-requires-else-turn_adds-clause-fits
back_to-requires-else-turn_adds-clause-fits t c =
    let e = sym c.before-in-loop-from.ensures ∙ c.in-Some.is in
    let total = loop_total c.args.search.now c.requires.ready c.args.trail.now c.requires.trail _ _ _ _ _ _ _
    c.loop_to-around.ensures.right c.loop_to-around.ensures.end c.loop-from.invariant c.requires.fits e in
    omega (arith, total)

pub back_to-at-requires-clause-fits : goal.back_to-at-requires-clause-fits
back_to-at-requires-clause-fits t c =
    let e = sym c.before-in-loop-from.ensures ∙ c.in-Some.is in
    let straight = ends_turn_at c.args.search.now c.requires.ready c.args.trail.now c.requires.trail _ _ _ _ false
    c.loop-from.invariant.spot e c.ends_turn.ensures c.if-ends_turn.false in
    straight_fits c.args.search.now c.requires.ready c.args.trail.now c.requires.trail _ _ _ _ _ _ c.loop-from.invariant c.requires.fits e straight

pub loop-from-preserved-then-turn_adds : goal.loop-from-preserved-then-turn_adds
loop-from-preserved-then-turn_adds t c =
    let e = sym c.before-in-loop-from.ensures ∙ c.in-Some.is in
    let turning = ends_turn_at c.args.search.now c.requires.ready c.args.trail.now c.requires.trail _ _ _ _ true
    c.loop-from.invariant.spot e c.ends_turn.ensures c.if-ends_turn.true in
    loop_step c.args.search.now c.requires.ready c.args.trail.now c.requires.trail _ _ _ _ _ _ _ _ _ _ _ _ _ _
    c.loop_to-around.ensures.right c.loop_to-around.ensures.end c.loop-from.invariant e turning refl
    c.back_to-end.ensures.step c.back.ensures c.back_to.ensures.step c.back_to.ensures.parts

pub loop-from-preserved-else-turn_adds : goal.loop-from-preserved-else-turn_adds
loop-from-preserved-else-turn_adds t c =
    let e = sym c.before-in-loop-from.ensures ∙ c.in-Some.is in
    let turning = ends_turn_at c.args.search.now c.requires.ready c.args.trail.now c.requires.trail _ _ _ _ true
    c.loop-from.invariant.spot e c.ends_turn.ensures c.if-ends_turn.true in
    let none : (0 < sum_in c.args.trail.now c.in-Some.from c.loop-from.at.depth + (flow c.args.search.now).added c.in-Some.from c.loop-from.at.depth) → ⊥ =
    λ pos. (let yes = c.turn_adds.ensures.1 pos in let not = c.if-turn_adds.false in absurd (cc)) in
    let nothing : sum_in c.args.trail.now c.in-Some.from c.loop-from.at.depth + (flow c.args.search.now).added c.in-Some.from c.loop-from.at.depth ≡ 0 =
    omega (arith, none) in
    skip_step c.args.search.now c.requires.ready c.args.trail.now c.requires.trail _ _ _ _ _ _ _ _ _
    c.loop_to-around.ensures.right c.loop_to-around.ensures.end c.loop-from.invariant e turning
    (omega (arith, nothing)) (omega (arith, nothing)) c.back_to-else-turn_adds.ensures.step c.back_to-else-turn_adds.ensures.parts

pub loop-from-preserved : goal.loop-from-preserved
loop-from-preserved t c =
    let e = sym c.before-in-loop-from.ensures ∙ c.in-Some.is in
    let straight = ends_turn_at c.args.search.now c.requires.ready c.args.trail.now c.requires.trail _ _ _ _ false
    c.loop-from.invariant.spot e c.ends_turn.ensures c.if-ends_turn.false in
    straight_step c.args.search.now c.requires.ready c.args.trail.now c.requires.trail _ _ _ _ _ _ _ _ c.loop-from.invariant e straight
    c.back_to-at.ensures.step c.back_to-at.ensures.parts

pub returns : goal.returns
returns t c = begins c.args.search.now c.requires.ready c.args.trail.now c.requires.trail
    c.args.times c.loop-from.at c.args.to c.args.shares.now c.loop-from.shares c.loop-from.invariant (sym c.before-in-loop-from.ensures ∙ c.in_default.is)
