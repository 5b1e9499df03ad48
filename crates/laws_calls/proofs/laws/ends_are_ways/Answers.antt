use Rattle.laws_calls.proofs.CoverLemmas as laws
use Rattle.laws_calls.proofs.laws.ends_are_ways.Goals as goal

pub returns : goal.returns
returns c = laws.ends_are_ways
