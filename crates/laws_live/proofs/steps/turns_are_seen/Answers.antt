use Rattle.laws_live.proofs.LawLemmas as laws
use Rattle.laws_live.proofs.steps.turns_are_seen.Goals as goal

pub returns : goal.returns
returns c = laws.turns_are_seen
