use Rattle.ends_picks.proofs.outcomes.Found.add_open.Goals as goal

pub returns : goal.returns
returns c o at may within = c.in_ok-add_all.ensures.has o at within
