use Rattle.std.proofs.Common.{◌≡◌, ◌∙◌, sym, refl, ap, arith, slice_get}
use Rattle.sts_types.proofs.Nesting.{below, is_head, is_no_head}
use Rattle.sts_types.proofs.loops.CodeLoops.found_head.Goals as goal

pub loop-at-init : goal.loop-at-init
loop-at-init c = refl

pub returns-then-is_inside : goal.returns-then-is_inside
returns-then-is_inside c = is_head c.args.self.now c.args.place c.loop-at.at (omega (arith, c.loop-at-test.true))
    (sym c.is_inside.ensures ∙ c.if-is_inside.true) c.loop-at.invariant

pub loop-at-preserved : goal.loop-at-preserved
loop-at-preserved c = is_no_head c.args.self.now c.args.place c.loop-at.at (omega (arith, c.loop-at-test.true))
    (sym c.is_inside.ensures ∙ c.if-is_inside.false) c.loop-at.invariant

pub returns : goal.returns
returns c =
    let z : c.loop-at.at ≡ 0 = omega (arith, c.loop-at-test.false) in
    ap (λ k. slice_get (below c.args.self.now c.args.place k) 0) (sym z) ∙ c.loop-at.invariant
