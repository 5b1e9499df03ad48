use Rattle.std.proofs.Common.{arith, sym, ◌∙◌}
use Rattle.sts_trace.proofs.Steps.{digit_more, shorter_after}
use Rattle.sts_trace.proofs.trace.with_digits.Goals as goal

pub loop-rest-preserved : goal.loop-rest-preserved
loop-rest-preserved c = record {
  spelled = c.loop-rest.invariant.spelled ∙ sym (digit_more c.loop-rest.number c.from.result c.loop-rest.rest.now c.loop-rest.invariant.some
      (omega arith) c.in-48-to-57.len_at_least (omega arith) (omega arith));
  some = omega arith;
  small = omega arith;
  shorter = omega (arith, shorter_after c.loop-rest.rest.now);
}
