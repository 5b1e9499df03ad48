use Rattle.laws_live.proofs.LawLemmas as laws
use Rattle.laws_live.proofs.steps.standing_is_seen.Goals as goal

pub returns : goal.returns
returns c = laws.standing_is_seen
