use Rattle.std.proofs.Common.{refl, sym, ◌∙◌, ap, is_some}
use Rattle.sts_tree.specs.Forest.{family_of}
use Rattle.sts_tree.proofs.Lookups.{no_living}
use Rattle.sts_tree.proofs.Rows.{family_at}
use Rattle.sts_tree.proofs.forest.Forest.any_lives.Goals as goal

pub returns-in-None : goal.returns-in-None
returns-in-None g c = rw (← c.self.view_is) (rw (no_living c.self.inside.tasks.held.slots c.self.inside.scopes.slots c.self.inside.ready
    c.self.inside.tasks.held.room c.args.s c.self.invariant (sym c.in-None.ensures)) refl)

pub returns-in-Some : goal.returns-in-Some
returns-in-Some g c =
    let f = family_at c.self.inside.scopes.slots c.args.s c.in-Some.row.now (sym c.in-Some.ensures) in
    let is = c.self.invariant.living c.args.s (family_of c.in-Some.row.now) f in
    rw (← c.self.view_is) (c.is_some.ensures ∙ ap is_some is.first)
