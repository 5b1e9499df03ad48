use Rattle.look_cases.proofs.verdicts.accepted_with.Goals as goal

pub returns : goal.returns
returns c ds list = c.with_list.ensures _ _ c.object_of-verdict.ensures list
