use Rattle.laws_live.proofs.LawLemmas as laws
use Rattle.laws_live.proofs.steps.effect_is_seen.Goals as goal

pub returns : goal.returns
returns c = laws.effect_is_seen
