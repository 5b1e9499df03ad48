use Rattle.laws_accepted.proofs.accepted.turns_are_safe.Goals as goal

pub returns : goal.returns
returns c = c.turns_are_safe.ensures c.args.verified.now c.never_faults.ensures
