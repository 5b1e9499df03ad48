use Rattle.std.proofs.Common.{refl, sym, ◌∙◌}
use Rattle.sts_links.specs.Lists.{IsList}
use Rattle.sts_tree.specs.Births.{births}
use Rattle.sts_tree.specs.Layers.{layer_of, listed}
use Rattle.sts_tree.specs.Stored.{link_at, tasks_of}
use Rattle.sts_tree.proofs.Lookups.{none_in, row_in, small_first}
use Rattle.sts_tree.proofs.forest.Forest.front_in.Goals.{After-list}
use Rattle.sts_tree.proofs.forest.Forest.front_in.Goals as goal

list : (g : _) (c : After-list g)
    → IsList (link_at c.self.inside.tasks.held.slots (layer_of c.args.subtasks)) c.list.result
    (births (listed c.args.subtasks c.args.s) 0 (tasks_of c.self.inside.tasks.held.slots))
list g c = rw c.list.ensures (row_in c.args.subtasks c.self.inside.tasks.held.slots c.self.inside.scopes.slots c.self.inside.ready
    c.self.inside.tasks.held.room c.args.s c.in-Some.row.now c.self.invariant (sym c.in-Some.ensures))

pub small-requires : goal.small-requires
small-requires g c k e = small_first c.self.inside.tasks.held.slots (layer_of c.args.subtasks) c.list.result _ k c.self.invariant.born
    (list g (goal.at.small-requires g c).After-list) e

pub returns-in-None : goal.returns-in-None
returns-in-None g c = rw (← c.self.view_is) (rw (none_in c.args.subtasks c.self.inside.tasks.held.slots c.self.inside.scopes.slots
    c.self.inside.ready c.self.inside.tasks.held.room c.args.s c.self.invariant (sym c.in-None.ensures)) refl)

pub returns-in-Some : goal.returns-in-Some
returns-in-Some g c = rw (← c.self.view_is) (c.small.ensures ∙ (list g (goal.at.returns-in-Some g c).After-list).first)
