use Rattle.std.proofs.Common.{arith}
use Rattle.std.proofs.lemmas.Grind.{common_steps}
use Rattle.sts_asm.proofs.outline.Outline.say.Goals as goal

pub returns-then-is_word-clause-steps : goal.returns-then-is_word-clause-steps
returns-then-is_word-clause-steps c = grind (arith, common_steps)

pub returns-then-is_word-2-clause-steps : goal.returns-then-is_word-2-clause-steps
returns-then-is_word-2-clause-steps c = grind (arith, common_steps)

pub returns-then-is_word-3-clause-steps : goal.returns-then-is_word-3-clause-steps
returns-then-is_word-3-clause-steps c = grind (arith, common_steps)

pub returns-clause-steps : goal.returns-clause-steps
returns-clause-steps c = grind (arith, common_steps)
