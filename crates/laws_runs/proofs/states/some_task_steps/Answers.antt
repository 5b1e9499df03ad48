use Rattle.laws_runs.proofs.StepLemmas as laws
use Rattle.laws_runs.proofs.states.some_task_steps.Goals as goal

pub returns : goal.returns
returns c = laws.some_task_steps
