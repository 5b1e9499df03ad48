use Rattle.sts_budget.proofs.PathLemmas.{are_within}
use Rattle.sts_budget.proofs.laws.points_are_within.Goals as goal

pub returns : goal.returns
returns c = are_within c.args.program.now c.args.function c.args.earlier.now c.args.budgets c.code_of.ensures.checked c.requires.in_program
    c.requires.typed c.requires.budget
