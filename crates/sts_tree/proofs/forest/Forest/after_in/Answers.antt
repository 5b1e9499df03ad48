use Rattle.std.proofs.Common.{◌≡◌, ℕ, List, ◌∷◌, ◌++◌, sym, ◌∙◌}
use Rattle.sts_links.specs.Lists.{IsList}
use Rattle.sts_links.specs.declared.links.Ends.{Ends}
use Rattle.sts_links.proofs.ChainLemmas.{key_link}
use Rattle.sts_tree.specs.Births.{births}
use Rattle.sts_tree.specs.Layers.{listed}
use Rattle.sts_tree.specs.Stored.{link_at, tasks_of}
use Rattle.sts_tree.proofs.Lookups.{list_of, small_after}
use Rattle.sts_tree.proofs.forest.Forest.after_in.Goals.{After-layer}
use Rattle.sts_tree.proofs.forest.Forest.after_in.Goals as goal

-- the list that the subtask is in
list : (g : _) (c : After-layer g) (s : ℕ) (front back : List ℕ)
    → births (listed c.args.subtasks s) 0 (tasks_of c.self.inside.tasks.held.slots) ≡ front ++ c.args.t ∷ back
    → (l : Ends) × IsList (link_at c.self.inside.tasks.held.slots c.layer.result) l (front ++ c.args.t ∷ back)
list g c s front back e = rw c.layer.ensures (list_of c.args.subtasks c.self.inside.tasks.held.slots c.self.inside.scopes.slots
    c.self.inside.ready c.self.inside.tasks.held.room s c.args.t front back c.self.invariant e)

pub after-requires : goal.after-requires
after-requires g c =
    let (s, front, back, e) = c.requires in
    let l = list g (goal.at.after-requires g c).After-layer s front back (rw (← c.self.view_is) at e) in
    key_link (link_at c.self.inside.tasks.held.slots c.layer.result) l.0 front c.args.t back l.1

pub small-requires : goal.small-requires
small-requires g c k q =
    let (s, front, back, e) = c.requires in
    let l = list g (goal.at.small-requires g c).After-layer s front back (rw (← c.self.view_is) at e) in
    small_after c.self.inside.tasks.held.slots c.layer.result l.0 front c.args.t back k c.self.invariant.born l.1
    (sym (c.after.ensures.key l.0 front back l.1) ∙ q)

pub returns : goal.returns
returns g c s front back e =
    let l = list g (goal.at.returns g c).After-layer s front back (rw (← c.self.view_is) at e) in
    c.small.ensures ∙ c.after.ensures.key l.0 front back l.1
