use Rattle.laws_accepted.proofs.Faults as laws
use Rattle.laws_accepted.proofs.accepted.never_faults.Goals as goal

pub returns : goal.returns
returns c = laws.never_faults c.args.verified.now c.living_tasks_are_fine.ensures
