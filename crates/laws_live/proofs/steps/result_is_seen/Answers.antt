use Rattle.laws_live.proofs.LawLemmas as laws
use Rattle.laws_live.proofs.steps.result_is_seen.Goals as goal

pub returns : goal.returns
returns c = laws.result_is_seen
