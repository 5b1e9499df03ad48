use Rattle.laws_calls.proofs.CoverLemmas as laws
use Rattle.laws_calls.proofs.laws.tasks_are_covered.Goals as goal

pub returns : goal.returns
returns c = laws.tasks_are_covered
