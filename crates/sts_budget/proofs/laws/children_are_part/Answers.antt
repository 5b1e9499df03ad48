use Rattle.sts_budget.proofs.PathLemmas.{children_part}
use Rattle.sts_budget.proofs.laws.children_are_part.Goals as goal

pub returns : goal.returns
returns c = children_part c.args.program.now c.args.function c.args.earlier.now c.args.budgets c.code_of.ensures.checked
    c.requires.in_program c.requires.typed c.requires.budget
