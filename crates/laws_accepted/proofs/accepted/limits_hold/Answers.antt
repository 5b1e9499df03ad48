use Rattle.laws_accepted.proofs.accepted.limits_hold.Goals as goal

pub returns : goal.returns
returns c = c.accepted_is_modest.ensures c.args.verified.now c.main_budgets.ensures.checked c.main_budgets.ensures.accepted
