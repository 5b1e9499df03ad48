use Rattle.std.proofs.Common.{◌≡◌, length, arith}
use Rattle.sts_world.proofs.Chaining.{bindings_found, bindings_put}
use Rattle.sts_world.proofs.chains.BindingChains.put.Goals as goal

pub returns-then-is_at-clause-list : goal.returns-then-is_at-clause-list
returns-then-is_at-clause-list c = bindings_found c.args.self.now c.args.hint c.args.bound c.args.behind
    (c.is_at.ensures.within c.if-is_at.true) (c.is_at.ensures.link c.if-is_at.true) (c.is_at.ensures.older c.if-is_at.true)

pub returns-clause-list : goal.returns-clause-list
returns-clause-list c =
    let place : c.len-place.result ≡ length c.self.inside.links.items = omega (arith, c.len-place.ensures, c.self.inside.links.ok) in
    rw (c.in_ok-push.ensures.items, ← c.self.view_is) (bindings_put c.self.inside.links.items
    (record { bound = c.args.bound; behind = c.args.behind }) c.len-place.result place (rw c.self.view_is c.requires))
