use Rattle.std.proofs.Common.{◌≡◌, ℕ, List, length}
use Rattle.sts_links.specs.Lists.{IsList}
use Rattle.sts_tree.specs.Stored.{link_at}
use Rattle.sts_tree.proofs.ClosedLemmas.{Removes}
use Rattle.sts_tree.proofs.forest.remove_all.Given as goal

abbrev pub invariant-loop : goal.invariant-loop
invariant-loop l = (keys : List ℕ) → IsList (link_at l.initial.tasks.held.slots 0) l.fn.list keys → length keys ≡ l.count → Removes l.initial.tasks.held l.tasks.held keys l.counter l.at
