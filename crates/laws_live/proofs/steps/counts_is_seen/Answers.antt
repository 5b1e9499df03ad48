use Rattle.laws_live.proofs.LawLemmas as laws
use Rattle.laws_live.proofs.steps.counts_is_seen.Goals as goal

pub returns : goal.returns
returns c = laws.counts_is_seen
