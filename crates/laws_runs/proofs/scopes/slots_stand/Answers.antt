use Rattle.laws_runs.proofs.SlotLemmas as laws
use Rattle.laws_runs.proofs.scopes.slots_stand.Goals as goal

pub returns : goal.returns
returns c = laws.slots_stand
