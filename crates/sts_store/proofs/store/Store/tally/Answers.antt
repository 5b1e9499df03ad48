use Rattle.std.proofs.Common.{◌∙◌}
use Rattle.sts_store.specs.contracts.store.Store.{the_view}
use Rattle.sts_store.proofs.Seeing.{scope_stands, scope_is_some, tally_is}
use Rattle.sts_store.proofs.store.Store.tally.Goals as goal

pub count-requires : goal.count-requires
count-requires c = scope_is_some (the_view c.self.inside) c.args.s (rw (← c.self.view_is) at c.requires)

pub returns : goal.returns
returns c =
    let p = scope_stands (the_view c.self.inside) c.args.s (rw (← c.self.view_is) at c.requires) in
    rw (← c.self.view_is) (c.count.ensures p.0 p.1 ∙ tally_is (the_view c.self.inside) c.args.s p.0 c.args.kind p.1)
