use Rattle.std.proofs.Common.{sym, ◌∙◌}
use Rattle.sts_store.specs.contracts.store.Store.{the_view}
use Rattle.sts_store.proofs.Views.{lives_is}
use Rattle.sts_store.proofs.store.Store.lives.Goals as goal

pub returns : goal.returns
returns c = rw (← c.self.view_is) (c.lives.ensures ∙ sym (lives_is (the_view c.self.inside) c.args.t))
