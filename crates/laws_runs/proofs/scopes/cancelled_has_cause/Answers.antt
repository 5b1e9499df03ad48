use Rattle.laws_runs.proofs.ScopeLemmas as laws
use Rattle.laws_runs.proofs.scopes.cancelled_has_cause.Goals as goal

pub returns : goal.returns
returns c = laws.cancelled_has_cause
