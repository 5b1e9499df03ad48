use Rattle.laws_live.proofs.LawLemmas as laws
use Rattle.laws_live.proofs.steps.expire_is_seen.Goals as goal

pub returns : goal.returns
returns c = laws.expire_is_seen
