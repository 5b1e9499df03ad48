use Rattle.laws_accepted.proofs.accepted.stands_stay.Goals as goal

pub returns : goal.returns
returns c = c.stands_stay.ensures c.args.verified.now c.never_faults.ensures
