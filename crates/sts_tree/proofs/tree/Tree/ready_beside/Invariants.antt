use Rattle.std.proofs.Common.{length}
use Rattle.sts_tree.proofs.PassingLemmas.{Passes, from}
use Rattle.sts_tree.proofs.tree.Tree.ready_beside.Given as goal

-- what is passed is out
abbrev pub invariant-loop-at : goal.invariant-loop-at
invariant-loop-at g l = Passes l.self.ready l.out l.at

abbrev pub decreases-loop-at : goal.decreases-loop-at
decreases-loop-at g l = length (from l.at l.self.ready)
