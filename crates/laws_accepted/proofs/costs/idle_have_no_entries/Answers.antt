use Rattle.laws_accepted.proofs.CostLaws as laws
use Rattle.laws_accepted.proofs.costs.idle_have_no_entries.Goals as goal

pub returns : goal.returns
returns c = laws.idle_have_no_entries
