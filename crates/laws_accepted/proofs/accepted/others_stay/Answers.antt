use Rattle.laws_accepted.proofs.accepted.others_stay.Goals as goal

pub returns : goal.returns
returns c = c.others_stay.ensures c.args.verified.now c.never_faults.ensures
