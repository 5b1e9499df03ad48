use Rattle.sts_tree.proofs.tree.Tree.ready_front.Goals as goal

pub returns-clause-once : goal.returns-clause-once
returns-clause-once g c = rw (← c.self.view_is) c.ready_front.ensures.once
