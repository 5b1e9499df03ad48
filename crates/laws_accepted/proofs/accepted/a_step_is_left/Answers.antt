use Rattle.laws_accepted.proofs.EveryRun as laws
use Rattle.laws_accepted.proofs.accepted.a_step_is_left.Goals as goal

pub returns : goal.returns
returns c =
    laws.a_step_is_left c.args.verified.now c.main_budgets.ensures.checked c.main_budgets.ensures.some
    c.main_budgets.ensures.accepted c.living_tasks_are_fine.ensures c.a_step_is_left.ensures
