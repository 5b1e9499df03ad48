use Rattle.sts_tree.proofs.Rows.{scope_there}
use Rattle.sts_tree.proofs.Stores.{task_at}
use Rattle.sts_tree.proofs.forest.Forest.task_node.Goals as goal

pub returns-clause-value : goal.returns-clause-value
returns-clause-value g c = rw (← c.self.view_is) (task_at c.self.inside.tasks.held.slots c.args.t c.record.result.now c.record.ensures)

pub returns-clause-home : goal.returns-clause-home
returns-clause-home g c s scope =
    rw (← c.self.view_is) (scope_there c.self.inside.scopes.slots s (c.self.invariant.homes c.args.t s c.record.result.now.task
    (task_at c.self.inside.tasks.held.slots c.args.t c.record.result.now c.record.ensures) scope))
