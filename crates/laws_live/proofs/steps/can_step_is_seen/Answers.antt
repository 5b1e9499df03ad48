use Rattle.laws_live.proofs.LawLemmas as laws
use Rattle.laws_live.proofs.steps.can_step_is_seen.Goals as goal

pub returns : goal.returns
returns c = laws.can_step_is_seen
