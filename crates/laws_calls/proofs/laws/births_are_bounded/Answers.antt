use Rattle.laws_calls.proofs.CoverLemmas as laws
use Rattle.laws_calls.proofs.laws.births_are_bounded.Goals as goal

pub returns : goal.returns
returns c = laws.births_are_bounded
