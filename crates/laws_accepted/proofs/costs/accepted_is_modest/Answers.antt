use Rattle.laws_accepted.proofs.Promised as laws
use Rattle.laws_accepted.proofs.costs.accepted_is_modest.Goals as goal

pub returns : goal.returns
returns c = laws.accepted_is_modest
