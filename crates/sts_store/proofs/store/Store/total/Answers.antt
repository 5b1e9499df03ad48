use Rattle.std.proofs.Common.{◌∙◌, ap, sym, rules, w64}
use mir.Val.{SFits}
use Rattle.std.proofs.lemmas.Int.{to_z-of_z}
use Rattle.laws_live.specs.Reading.{live_scope_at}
use Rattle.sts_store.specs.Parts.{live_of}
use Rattle.sts_store.specs.contracts.store.Store.{the_view}
use Rattle.sts_store.proofs.Seeing.{scope_stands, scope_is_some, total_is}
use Rattle.sts_store.proofs.store.Store.total.Goals as goal

pub total-requires : goal.total-requires
total-requires c = scope_is_some (the_view c.self.inside) c.args.s (rw (← c.self.view_is) at c.requires)

pub returns : goal.returns
returns c =
    let p = scope_stands (the_view c.self.inside) c.args.s (rw (← c.self.view_is) at c.requires) in
    let fits : SFits w64 c.total.result = search rules in
    let result = to_z-of_z w64 c.total.result fits ∙ c.total.ensures p.0 p.1 ∙ sym (total_is (the_view c.self.inside) c.args.s p.0 p.1) in
    result ∙ ap (λ m. (live_scope_at (live_of m) c.args.s).told.total) c.self.view_is
