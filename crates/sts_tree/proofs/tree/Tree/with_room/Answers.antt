use Rattle.sts_tree.proofs.Keeping.{root_tree}
use Rattle.sts_tree.proofs.tree.Tree.with_room.Goals as goal

pub invariant_of-result : goal.invariant_of-result
invariant_of-result g c = rw c.in_ok-forest.ensures.value (root_tree _ _ _)
