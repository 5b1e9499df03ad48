use Rattle.std.proofs.Common.{get_or, None}
use Rattle.sts_store.specs.contracts.store.Store.{the_view}
use Rattle.sts_store.proofs.Scoping.{expiring, expire_live, expire_unseen, expire_store}
use Rattle.sts_store.proofs.store.Store.expire.Goals as goal
use Rattle.laws_words.proofs.OptionLemmas.{not_none}

pub expire-requires : goal.expire-requires
expire-requires c =
    let m = the_view c.self.inside in
    let p = expiring m c.args.s (rw (← c.self.view_is) at c.requires) in
    not_none (get_or m.tree.scopes c.args.s None) p.0 p.1

pub invariant_of-self : goal.invariant_of-self
invariant_of-self c =
    let can = rw (← c.self.view_is) at c.requires in
    let p = expiring (the_view c.self.inside) c.args.s can in
    expire_store (the_view c.self.inside) c.args.s can c.expire.new.tree (c.expire.ensures p.0 p.1) c.self.invariant

pub returns-clause-live : goal.returns-clause-live
returns-clause-live c =
    let can = rw (← c.self.view_is) at c.requires in
    let p = expiring (the_view c.self.inside) c.args.s can in
    rw (← c.self.view_is) (expire_live (the_view c.self.inside) c.args.s can c.expire.new.tree (c.expire.ensures p.0 p.1))

pub returns-clause-unseen : goal.returns-clause-unseen
returns-clause-unseen c =
    let can = rw (← c.self.view_is) at c.requires in
    let p = expiring (the_view c.self.inside) c.args.s can in
    rw (← c.self.view_is) (expire_unseen (the_view c.self.inside) c.args.s can c.expire.new.tree (c.expire.ensures p.0 p.1))
