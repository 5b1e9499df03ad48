use Rattle.std.proofs.Common.{◌∙◌}
use Rattle.ends_plain.proofs.exploration.begun.Goals as goal

pub invariant_of-result : goal.invariant_of-result
invariant_of-result c = record {
  begins = c.in_ok-space.ensures.first ∙ c.in_ok-first.ensures;
  space = c.in_ok-space.ensures.space;
}
