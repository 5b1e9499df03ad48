use Rattle.std.proofs.Common.{◌∙◌, ap}
use Rattle.sts_cancel.specs.Cancelling.{cancel}
use Rattle.laws_live.specs.Cancelling.{live_cancel}
use Rattle.sts_store.specs.contracts.store.Store.{the_view}
use Rattle.sts_store.specs.Parts.{live_of, unseen_of}
use Rattle.sts_store.proofs.Seeing.{scope_stands}
use Rattle.sts_store.proofs.Scoping.{kept_cancel, rest_cancel, cancel_live}
use Rattle.sts_store.proofs.Keeping.{store_seen, rest_seen}
use Rattle.sts_store.proofs.store.Store.cancel.Goals as goal

pub invariant_of-self : goal.invariant_of-self
invariant_of-self c =
    let m = the_view c.self.inside in
    let p = scope_stands m c.args.s (rw (← c.self.view_is) at c.requires) in
    store_seen m c.cancel.new.tree (cancel m.tree c.args.s p.0) (c.cancel.ensures p.0 p.1) (kept_cancel m c.args.s p.0 c.self.invariant p.1)

pub returns-clause-live : goal.returns-clause-live
returns-clause-live c =
    let m = the_view c.self.inside in
    let p = scope_stands m c.args.s (rw (← c.self.view_is) at c.requires) in
    cancel_live m c.args.s p.0 p.1 c.cancel.new.tree (c.cancel.ensures p.0 p.1)
    ∙ ap (λ n. live_cancel (live_of n) c.args.s) c.self.view_is

pub returns-clause-unseen : goal.returns-clause-unseen
returns-clause-unseen c =
    let m = the_view c.self.inside in
    let p = scope_stands m c.args.s (rw (← c.self.view_is) at c.requires) in
    rest_seen m c.cancel.new.tree (cancel m.tree c.args.s p.0) (c.cancel.ensures p.0 p.1) ∙ rest_cancel m c.args.s p.0
    ∙ ap unseen_of c.self.view_is
