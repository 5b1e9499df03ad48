use Rattle.laws_calls.proofs.CoverLemmas as laws
use Rattle.laws_calls.proofs.laws.runs_are_covered.Goals as goal

pub returns : goal.returns
returns c = laws.runs_are_covered
