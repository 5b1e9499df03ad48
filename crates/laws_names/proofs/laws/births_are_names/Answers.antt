use Rattle.laws_names.proofs.EventLemmas as laws
use Rattle.laws_names.proofs.laws.births_are_names.Goals as goal

pub returns : goal.returns
returns c = laws.births_are_names
