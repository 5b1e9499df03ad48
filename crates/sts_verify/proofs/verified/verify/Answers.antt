use Rattle.std.proofs.Common.{length, refl, sym, ap, arith, subst}
use Rattle.sts_verify.specs.Verifying.{Tells}
use Rattle.sts_verify.proofs.Verifying.{sound_more, accepts, tells}
use Rattle.sts_verify.proofs.verified.verify.Goals as goal

pub returns-in-Err : goal.returns-in-Err
returns-in-Err c =
    subst (Tells c.args.program) (sym c.told.ensures)
    (tells c.args.program c.loop-function.function c.in-Err.error
    (omega (arith, c.loop-function-test.true, ap length c.functions.ensures.value)) c.loop-function.invariant.0 c.in-Err.ensures)

pub loop-function-init : goal.loop-function-init
loop-function-init c =
    let none = ap length c.new-budgets.ensures.items in
    (λ f less. absurd (omega (arith, less)), none, λ f less. absurd (omega (arith, less, none)))

pub loop-function-preserved : goal.loop-function-preserved
loop-function-preserved c = (
  sound_more c.args.program c.loop-function.function c.loop-function.invariant.0 c.in_default.ensures.0,
  c.in_default.ensures.1,
  c.in_default.ensures.2,
)

pub returns : goal.returns
returns c = (
  refl,
  accepts c.args.program c.loop-function.function c.loop-function.invariant.0
      (omega (arith, c.loop-function-test.false, ap length c.functions.ensures.value)),
)
