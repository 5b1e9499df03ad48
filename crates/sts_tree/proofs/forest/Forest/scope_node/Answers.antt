use Rattle.sts_tree.proofs.Rows.{scope_at}
use Rattle.sts_tree.proofs.forest.Forest.scope_node.Goals as goal

pub returns : goal.returns
returns g c = rw (← c.self.view_is) (scope_at c.self.inside.scopes.slots c.args.s c.record.result.now c.record.ensures)
