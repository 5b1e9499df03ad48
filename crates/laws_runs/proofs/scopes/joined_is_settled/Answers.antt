use Rattle.laws_runs.proofs.ScopeLemmas as laws
use Rattle.laws_runs.proofs.scopes.joined_is_settled.Goals as goal

pub returns : goal.returns
returns c = laws.joined_is_settled
