use Rattle.laws_accepted.proofs.CostLaws as laws
use Rattle.laws_accepted.proofs.costs.tasks_follow_paths.Goals as goal

pub returns : goal.returns
returns c = laws.tasks_follow_paths
