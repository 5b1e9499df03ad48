use Rattle.laws_runs.proofs.ScopeLemmas as laws
use Rattle.laws_runs.proofs.scopes.left_out_is_cancelled.Goals as goal

pub returns : goal.returns
returns c = laws.left_out_is_cancelled
