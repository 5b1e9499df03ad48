use Rattle.laws_live.proofs.LawLemmas as laws
use Rattle.laws_live.proofs.steps.run_is_seen.Goals as goal

pub returns : goal.returns
returns c = laws.run_is_seen
