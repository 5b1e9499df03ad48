use Rattle.std.proofs.Common.{arith}
use Rattle.std.proofs.lemmas.Grind.{common_steps}
use Rattle.sts_asm.proofs.outline.Draft.inner.Goals as goal

pub returns-in_err-no_more-clause-steps : goal.returns-in_err-no_more-clause-steps
returns-in_err-no_more-clause-steps c = grind (arith, common_steps)

pub returns-in-Some-clause-steps : goal.returns-in-Some-clause-steps
returns-in-Some-clause-steps c = grind (arith, common_steps)

pub returns-in_err-form-clause-steps : goal.returns-in_err-form-clause-steps
returns-in_err-form-clause-steps c = grind (arith, common_steps)

pub returns-in-Some-2-clause-steps : goal.returns-in-Some-2-clause-steps
returns-in-Some-2-clause-steps c = grind (arith, common_steps)

pub returns-in_err-unnamed-clause-steps : goal.returns-in_err-unnamed-clause-steps
returns-in_err-unnamed-clause-steps c = grind (arith, common_steps)

pub returns-clause-steps : goal.returns-clause-steps
returns-clause-steps c = grind (arith, common_steps)
