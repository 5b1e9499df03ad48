use Rattle.laws_runs.proofs.TallyLemmas as laws
use Rattle.laws_runs.proofs.scopes.tallies_are_counts.Goals as goal

pub returns : goal.returns
returns c = laws.tallies_are_counts
