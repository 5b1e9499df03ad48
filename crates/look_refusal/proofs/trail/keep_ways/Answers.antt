use Rattle.std.proofs.Common.{◌<◌, length, Some, refl, ap, ◌∙◌, arith}
use Rattle.look_refusal.specs.Trail.{sum_in}
use Rattle.look_refusal.proofs.Bests.{entry_more}
use Rattle.look_refusal.proofs.trail.keep_ways.Goals as goal

pub loop-depth-init : goal.loop-depth-init
loop-depth-init c = (c.told-row, (λ d lt. absurd (omega arith)), (λ d le. refl))

pub loop-depth-preserved : goal.loop-depth-preserved
loop-depth-preserved c =
    let within : c.loop-depth.depth < length c.loop-depth.row =
    omega (arith, c.depth_at-depth-end.ensures.bound, c.loop-depth.invariant.0) in
    let m = entry_more c.args.search.now (sum_in c.args.trail.now) c.args.from c.loop-depth.depth c.args.row.now c.loop-depth.row
    c.better.result _ within (ap (λ x. record { sum = x; from = Some c.args.from }) (c.in-Some.ensures {u = tt})) c.better.ensures
    c.loop-depth.invariant.1 c.loop-depth.invariant.2 in
    (m.0 ∙ c.loop-depth.invariant.0, m.1, m.2)

pub returns-clause-kept : goal.returns-clause-kept
returns-clause-kept c = λ t d low. c.loop-depth.invariant.1 d (omega (arith, c.depth_at-depth-end.ensures.value))
