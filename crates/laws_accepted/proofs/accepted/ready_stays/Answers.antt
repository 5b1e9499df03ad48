use Rattle.laws_accepted.proofs.accepted.ready_stays.Goals as goal

pub returns : goal.returns
returns c = c.ready_stays.ensures c.args.verified.now c.never_faults.ensures
