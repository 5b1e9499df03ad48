use Rattle.std.proofs.Common.{◌∙◌}
use Rattle.sts_store.specs.contracts.store.Store.{the_view}
use Rattle.sts_store.proofs.Seeing.{steps_seen}
use Rattle.sts_store.proofs.store.Store.can_step.Goals as goal

pub returns : goal.returns
returns c = rw (← c.self.view_is) (c.can_step.ensures ∙ steps_seen (the_view c.self.inside) c.args.t)
