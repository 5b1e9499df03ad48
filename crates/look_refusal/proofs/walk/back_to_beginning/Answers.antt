use Rattle.std.proofs.Common.{refl, ap, arith}
use Rattle.sts_rules.specs.Around.{around}
use Rattle.look_refusal.specs.declared.search.Spot.{Spot}
use Rattle.look_refusal.specs.Search.{paths, flow}
use Rattle.look_refusal.specs.Trail.{greatest_number}
use Rattle.look_refusal.proofs.Backwards.{turn_in, loop_opens, turn_of_loop, turn_of_none, turn_spot, out_fits, out_of_loop, rest_outside}
use Rattle.look_refusal.proofs.Walking.{open_none, open_walked, whole_walk}
use Rattle.look_refusal.proofs.walk.back_to_beginning.Goals as goal

pub loop-head-init : goal.loop-head-init
loop-head-init c = (
  open_none (paths c.args.search.now) (flow c.args.search.now) c.args.to c.args.shares.now,
  c.requires.spot,
  c.requires.places,
  c.requires.parts,
  refl,
)

pub head-requires : goal.head-requires
head-requires c =
    let within = turn_in c.args.search.now c.requires.ready c.args.trail.now c.requires.trail c.loop-head.at c.back-turn.result c.back-turn.ensures.begin in
    omega (arith, c.requires.ready.heads_long, within)

pub loop_from-requires-clause-opens : goal.loop_from-requires-clause-opens
loop_from-requires-clause-opens c = loop_opens c.args.search.now c.requires.ready c.args.trail.now c.requires.trail c.loop-head.at
    c.back-turn.result c.in-Some.head _ _ c.back-turn.ensures.begin c.head.ensures c.in-Some.is

pub back_out-at-requires-clause-begins : goal.back_out-at-requires-clause-begins
back_out-at-requires-clause-begins c =
    let ti = turn_of_loop c.args.search.now c.requires.ready c.args.trail.now c.requires.trail c.loop_from.result c.loop-head.at
    c.back-turn.result c.in-Some.head _ _ c.loop_from.ensures.head c.back-turn.ensures.begin c.head.ensures c.in-Some.is in
    ap (λ (x : Spot). x.place) ti.0

pub back_out-at-requires-clause-spot : goal.back_out-at-requires-clause-spot
back_out-at-requires-clause-spot c =
    let ti = turn_of_loop c.args.search.now c.requires.ready c.args.trail.now c.requires.trail c.loop_from.result c.loop-head.at
    c.back-turn.result c.in-Some.head _ _ c.loop_from.ensures.head c.back-turn.ensures.begin c.head.ensures c.in-Some.is in
    turn_spot c.args.search.now c.requires.ready c.args.trail.now c.requires.trail c.loop_from.result c.loop-head.at c.back-turn.result
    c.loop_from.ensures.right ti.0

pub back_out-at-requires-clause-fits : goal.back_out-at-requires-clause-fits
back_out-at-requires-clause-fits c =
    let ti = turn_of_loop c.args.search.now c.requires.ready c.args.trail.now c.requires.trail c.loop_from.result c.loop-head.at
    c.back-turn.result c.in-Some.head _ _ c.loop_from.ensures.head c.back-turn.ensures.begin c.head.ensures c.in-Some.is in
    let inv = c.loop-head.invariant in
    out_fits c.args.search.now c.requires.ready c.args.trail.now c.requires.trail c.loop_from.result c.loop-head.at c.back-turn.result
    c.loop-head.shares c.back-turn.new.shares greatest_number c.loop_from.ensures.right ti.1 (ap (λ (x : Spot). x.depth) ti.0)
    c.back-turn.ensures.total (omega (arith, inv.4, c.requires.fits))

pub loop-head-smaller : goal.loop-head-smaller
loop-head-smaller c =
    let ti = turn_of_loop c.args.search.now c.requires.ready c.args.trail.now c.requires.trail c.loop_from.result c.loop-head.at
    c.back-turn.result c.in-Some.head _ _ c.loop_from.ensures.head c.back-turn.ensures.begin c.head.ensures c.in-Some.is in
    let less = c.requires.ready.good.lesser c.loop-head.at.place c.loop_from.result.head
    (around c.args.search.now.code.now c.loop_from.result.head) ti.1 in
    let place = c.back_out-at.ensures.place in
    omega (arith, place, less)

pub loop-head-preserved : goal.loop-head-preserved
loop-head-preserved c =
    let ti = turn_of_loop c.args.search.now c.requires.ready c.args.trail.now c.requires.trail c.loop_from.result c.loop-head.at
    c.back-turn.result c.in-Some.head _ _ c.loop_from.ensures.head c.back-turn.ensures.begin c.head.ensures c.in-Some.is in
    out_of_loop c.args.search.now c.requires.ready c.args.trail.now c.requires.trail c.loop_from.result c.loop-head.at c.args.to c.back-turn.result
    c.back_out-at.result c.args.shares.now c.loop-head.shares c.back-turn.new.shares c.back_out-at.new.shares
    c.loop_from.ensures.right ti c.back-turn.ensures c.back_out-at.ensures c.loop-head.invariant

pub returns-in-None-clause-walk : goal.returns-in-None-clause-walk
returns-in-None-clause-walk c =
    let o = turn_of_none c.args.search.now c.requires.ready c.args.trail.now c.requires.trail c.loop-head.at c.back-turn.result _ _
    c.back-turn.ensures.begin c.head.ensures c.in-None.is in
    whole_walk (paths c.args.search.now) (flow c.args.search.now) c.back-turn.result c.args.to c.args.shares.now c.back-turn.new.shares
    (open_walked (paths c.args.search.now) (flow c.args.search.now) c.back-turn.result c.loop-head.at c.args.to c.args.shares.now
    c.loop-head.shares c.back-turn.new.shares c.loop-head.invariant.0 c.back-turn.ensures.walked) o.0

pub returns-in-None-clause-total : goal.returns-in-None-clause-total
returns-in-None-clause-total c =
    let o = turn_of_none c.args.search.now c.requires.ready c.args.trail.now c.requires.trail c.loop-head.at c.back-turn.result _ _
    c.back-turn.ensures.begin c.head.ensures c.in-None.is in
    let total = c.back-turn.ensures.total in
    let inv = c.loop-head.invariant in
    let rest = rest_outside c.args.search.now c.requires.ready c.args.trail.now c.requires.trail c.loop-head.at o.1 in
    omega (arith, total, rest, inv.4)
