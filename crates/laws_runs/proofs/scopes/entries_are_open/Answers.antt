use Rattle.laws_runs.proofs.ScopeLemmas as laws
use Rattle.laws_runs.proofs.scopes.entries_are_open.Goals as goal

pub returns : goal.returns
returns c = laws.entries_are_open
