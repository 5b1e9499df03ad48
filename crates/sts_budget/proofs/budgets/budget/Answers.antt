use Rattle.std.proofs.Common.{arith}
use Rattle.sts_code.proofs.CheckedLemmas.{routines_are_fine}
use Rattle.sts_budget.proofs.budgets.budget.Goals as goal

pub overflow_cast-function : goal.overflow_cast-function
overflow_cast-function c = omega (arith, (routines_are_fine c.args.program.now.routines c.code_of.ensures.checked).0, c.requires.in_program)
