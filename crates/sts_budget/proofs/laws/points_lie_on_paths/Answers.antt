use Rattle.sts_budget.proofs.PathLemmas.{lie_on_paths}
use Rattle.sts_budget.proofs.laws.points_lie_on_paths.Goals as goal

pub returns : goal.returns
returns c = lie_on_paths c.args.program.now c.args.function c.args.earlier.now c.code_of.ensures.checked c.requires.in_program c.requires.typed
