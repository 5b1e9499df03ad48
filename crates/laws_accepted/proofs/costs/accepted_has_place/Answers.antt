use Rattle.laws_accepted.proofs.Promised as laws
use Rattle.laws_accepted.proofs.costs.accepted_has_place.Goals as goal

pub returns : goal.returns
returns c = laws.accepted_has_place
