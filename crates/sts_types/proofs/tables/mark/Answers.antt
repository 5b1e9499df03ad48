use Rattle.std.proofs.Common.{◌≡◌, ◌+◌, ◌∙◌, arith, subst, refl, length-set}
use Rattle.sts_types.proofs.LoopMarking.{Marks, marks_none, marks_more, marks_all}
use Rattle.sts_types.proofs.tables.mark.Goals as goal

pub loop-place-init : goal.loop-place-init
loop-place-init c = (refl, marks_none c.args.heads.now.items c.args.at)

pub loop-place-preserved : goal.loop-place-preserved
loop-place-preserved c = (
  length-set c.loop-place.heads.items c.loop-place.place _ ∙ c.loop-place.invariant.0,
  marks_more c.args.heads.now.items c.loop-place.heads.items c.args.at c.loop-place.place (omega arith)
      (omega (arith, c.loop-place.invariant.0)) c.loop-place.invariant.1,
)

pub returns-clause-marked : goal.returns-clause-marked
returns-clause-marked c =
    let last : c.loop-place.place ≡ c.args.end + 1 = omega (arith, c.loop-place-test.false) in
    marks_all c.args.heads.now.items c.loop-place.heads.items c.args.at c.args.end
    (subst (Marks c.args.heads.now.items c.loop-place.heads.items c.args.at) last c.loop-place.invariant.1)
