use Rattle.laws_live.proofs.LawLemmas as laws
use Rattle.laws_live.proofs.steps.interrupt_is_seen.Goals as goal

pub returns : goal.returns
returns c = laws.interrupt_is_seen
