use Rattle.std.proofs.Common.{refl}
use Rattle.sts_tree.specs.Marks.{with_mark}
use Rattle.sts_tree.proofs.Keeping.{marked_tree}
use Rattle.sts_tree.proofs.Rows.{marked_owner}
use Rattle.sts_tree.proofs.tree.Tree.mark.Goals as goal

pub invariant_of-self : goal.invariant_of-self
invariant_of-self g c =
    let x = c.scope_node.result.now in
    marked_tree c.self.inside.forest c.mark.new.self c.settle.new.forest c.args.s x.owner x (with_mark c.args.mark x) c.self.invariant
    c.scope_node.ensures (marked_owner c.args.mark x) refl (c.mark.ensures x c.scope_node.ensures) c.settle.ensures.seen
    c.settle.ensures.ready
