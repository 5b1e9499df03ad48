use Rattle.std.proofs.Common.{refl, ◌∙◌, ◌++◌, ◌∷◌, [], true}
use Rattle.sts_tree.specs.Forest.{families_of, ready_of}
use Rattle.sts_tree.proofs.Stores.{Writes, can_push, pushes, own_task, seen_is}
use Rattle.sts_tree.proofs.forest.Forest.push_ready.Goals as goal

pub push_back-self-inside-requires-clause-list : goal.push_back-self-inside-requires-clause-list
push_back-self-inside-requires-clause-list g c =
    let p = can_push c.self.inside.tasks.held.slots (families_of c.self.inside.scopes.slots) c.self.inside.ready
    c.self.inside.tasks.held.room c.args.t c.at.result.now
    (record c.at.result.now { task = record c.at.result.now.task { ready = true } }) c.self.invariant c.at.ensures.value refl
    (rw (← c.self.view_is) at c.requires.waits) in
    (ready_of c.self.inside.tasks.held.slots c.self.inside.ready, p.0, p.1)

after : (g : _) (c : goal.After-self-2-1 g) → Writes c.self.inside.tasks.held.slots c.push_back-self-inside.new.store.held.slots (families_of c.self.inside.scopes.slots) c.self.inside.ready c.push_back-self-inside.result c.self.inside.tasks.held.room c.args.t (record c.at.result.now.task { ready = true }) (ready_of c.self.inside.tasks.held.slots c.self.inside.ready ++ c.args.t ∷ [])
after g c =
    let q = record c.at.result.now { task = record c.at.result.now.task { ready = true } } in
    let p = can_push c.self.inside.tasks.held.slots (families_of c.self.inside.scopes.slots) c.self.inside.ready c.self.inside.tasks.held.room c.args.t c.at.result.now q c.self.invariant c.at.ensures.value refl (rw (← c.self.view_is) at c.requires.waits) in
    pushes c.self.inside.tasks.held.slots c.push_back-self-inside.new.store.held.slots (families_of c.self.inside.scopes.slots) c.self.inside.ready c.push_back-self-inside.result c.self.inside.tasks.held.room c.args.t c.at.result.now q c.self.invariant c.at.ensures.value refl c.push_back-self-inside.ensures.rest.tasks (c.push_back-self-inside.ensures.list (ready_of c.self.inside.tasks.held.slots c.self.inside.ready) p.0 p.1)

pub invariant_of-self : goal.invariant_of-self
invariant_of-self g c = let w = after g c in rw c.push_back-self-inside.ensures.rest.room w.is

pub returns : goal.returns
returns g c x is =
    let w = after g c in
    let own = own_task c.self.inside.tasks.held.slots c.args.t c.at.result.now x c.at.ensures.value (rw (← c.self.view_is) at is) in
    rw (← c.self.view_is, c.push_back-self-inside.ensures.rest.room, c.push_back-self-inside.ensures.rest.keys)
    (seen_is _ _ _ (w.tasks ∙ (rw own refl)) w.keys_are)
