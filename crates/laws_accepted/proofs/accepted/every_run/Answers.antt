use Rattle.laws_accepted.proofs.EveryRun as laws
use Rattle.laws_accepted.proofs.accepted.every_run.Goals as goal

pub returns-clause-runs_well : goal.returns-clause-runs_well
returns-clause-runs_well c =
    let main = c.main_budgets.ensures in
    laws.runs_well c.args.verified.now main.checked main.some main.accepted c.never_faults.ensures
    c.closed_is_empty.ensures c.root_ends_last.ensures c.some_task_steps.ensures
    c.steps_are_within.ensures c.tasks_are_within.ensures c.scopes_are_within.ensures c.binds_are_within.ensures
    c.main_budgets.result main.printed
