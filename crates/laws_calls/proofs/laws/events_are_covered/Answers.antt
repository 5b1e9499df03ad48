use Rattle.laws_calls.proofs.CoverLemmas as laws
use Rattle.laws_calls.proofs.laws.events_are_covered.Goals as goal

pub returns : goal.returns
returns c = laws.events_are_covered
