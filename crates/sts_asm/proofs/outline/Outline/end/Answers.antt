use Rattle.std.proofs.Common.{arith}
use Rattle.std.proofs.lemmas.Grind.{common_steps}
use Rattle.sts_asm.proofs.outline.Outline.end.Goals as goal

pub returns-in_err-no_more-clause-steps : goal.returns-in_err-no_more-clause-steps
returns-in_err-no_more-clause-steps c = grind (arith, common_steps)

pub returns-clause-steps : goal.returns-clause-steps
returns-clause-steps c = grind (arith, common_steps)

pub returns-clause-grows : goal.returns-clause-grows
returns-clause-grows c = grind (arith, common_steps)
