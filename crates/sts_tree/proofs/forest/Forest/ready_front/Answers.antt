use Rattle.std.proofs.Common.{◌∙◌}
use Rattle.sts_tree.proofs.Lookups.{small_first}
use Rattle.sts_tree.proofs.forest.Forest.ready_front.Goals as goal

pub small-requires : goal.small-requires
small-requires g c k e = small_first c.self.inside.tasks.held.slots 2 c.self.inside.ready _ k c.self.invariant.born c.self.invariant.is_ready e

pub returns-clause-front : goal.returns-clause-front
returns-clause-front g c = rw (← c.self.view_is) (c.small.ensures ∙ c.self.invariant.is_ready.first)

pub returns-clause-once : goal.returns-clause-once
returns-clause-once g c = rw (← c.self.view_is) c.self.invariant.is_ready.distinct
