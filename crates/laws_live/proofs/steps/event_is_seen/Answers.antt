use Rattle.laws_live.proofs.LawLemmas as laws
use Rattle.laws_live.proofs.steps.event_is_seen.Goals as goal

pub returns : goal.returns
returns c = laws.event_is_seen
