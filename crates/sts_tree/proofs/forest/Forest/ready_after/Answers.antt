use Rattle.std.proofs.Common.{sym, ◌∙◌}
use Rattle.sts_tree.specs.Forest.{ready_of}
use Rattle.sts_tree.specs.Stored.{link_at}
use Rattle.sts_tree.proofs.KeyLemmas.{split}
use Rattle.sts_tree.proofs.Lookups.{small_after}
use Rattle.sts_links.proofs.ChainLemmas.{key_link}
use Rattle.sts_tree.proofs.forest.Forest.ready_after.Goals as goal

pub after-requires : goal.after-requires
after-requires g c =
    let s = split c.args.t (ready_of c.self.inside.tasks.held.slots c.self.inside.ready) (rw (← c.self.view_is) at c.requires) in
    key_link (link_at c.self.inside.tasks.held.slots 2) c.self.inside.ready s.front c.args.t s.back (rw s.all_are at c.self.invariant.is_ready)

pub small-requires : goal.small-requires
small-requires g c k q =
    let s = split c.args.t (ready_of c.self.inside.tasks.held.slots c.self.inside.ready) (rw (← c.self.view_is) at c.requires) in
    let l = rw s.all_are at c.self.invariant.is_ready in
    small_after c.self.inside.tasks.held.slots 2 c.self.inside.ready s.front c.args.t s.back k c.self.invariant.born l
    (sym (c.after.ensures.key c.self.inside.ready s.front s.back l) ∙ q)

pub returns : goal.returns
returns g c front back e =
    c.small.ensures ∙ c.after.ensures.key c.self.inside.ready front back (rw (rw (← c.self.view_is) at e) at c.self.invariant.is_ready)
