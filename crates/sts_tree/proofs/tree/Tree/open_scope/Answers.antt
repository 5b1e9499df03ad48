use Rattle.sts_tree.proofs.Keeping.{opened_tree}
use Rattle.sts_tree.proofs.tree.Tree.open_scope.Goals as goal

pub invariant_of-self : goal.invariant_of-self
invariant_of-self g c = rw c.open_scope.ensures.opened (opened_tree c.self.inside.forest _ _ _ c.self.invariant)
