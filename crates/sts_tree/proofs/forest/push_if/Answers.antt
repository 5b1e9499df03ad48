use Rattle.sts_tree.proofs.forest.push_if.Goals as goal

pub returns-then-wanted-clause-list : goal.returns-then-wanted-clause-list
returns-then-wanted-clause-list c keys is new = rw c.if-wanted.true (c.push_back.ensures.list keys is new)
