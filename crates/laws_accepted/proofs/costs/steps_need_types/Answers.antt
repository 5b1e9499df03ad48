use Rattle.laws_accepted.proofs.Untyped as laws
use Rattle.laws_accepted.proofs.costs.steps_need_types.Goals as goal

pub returns : goal.returns
returns c = laws.steps_need_types
