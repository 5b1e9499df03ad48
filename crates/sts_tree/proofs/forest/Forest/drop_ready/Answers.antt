use Rattle.std.proofs.Common.{refl, ◌∙◌, false}
use Rattle.sts_tree.specs.Births.{without}
use Rattle.sts_tree.specs.Forest.{families_of, ready_of}
use Rattle.sts_tree.proofs.KeyLemmas.{split, without_own}
use Rattle.sts_tree.proofs.Stores.{Writes, can_drop, drops, own_task, seen_is}
use Rattle.sts_tree.proofs.forest.Forest.drop_ready.Goals as goal

pub unlink-self-inside-requires : goal.unlink-self-inside-requires
unlink-self-inside-requires g c =
    let s = split c.args.t (ready_of c.self.inside.tasks.held.slots c.self.inside.ready) (rw (← c.self.view_is) at c.requires.ready) in
    let p = can_drop c.self.inside.tasks.held.slots (families_of c.self.inside.scopes.slots) c.self.inside.ready
    c.self.inside.tasks.held.room c.args.t c.at.result.now
    (record c.at.result.now { task = record c.at.result.now.task { ready = false } }) c.self.invariant c.at.ensures.value refl s in
    (s.front, s.back, p)

after : (g : _) (c : goal.After-self-2-1 g) → Writes c.self.inside.tasks.held.slots c.unlink-self-inside.new.store.held.slots (families_of c.self.inside.scopes.slots) c.self.inside.ready c.unlink-self-inside.result c.self.inside.tasks.held.room c.args.t (record c.at.result.now.task { ready = false }) (without c.args.t (ready_of c.self.inside.tasks.held.slots c.self.inside.ready))
after g c =
    let q = record c.at.result.now { task = record c.at.result.now.task { ready = false } } in
    let s = split c.args.t (ready_of c.self.inside.tasks.held.slots c.self.inside.ready) (rw (← c.self.view_is) at c.requires.ready) in
    let p = can_drop c.self.inside.tasks.held.slots (families_of c.self.inside.scopes.slots) c.self.inside.ready c.self.inside.tasks.held.room c.args.t c.at.result.now q c.self.invariant c.at.ensures.value refl s in
    drops c.self.inside.tasks.held.slots c.unlink-self-inside.new.store.held.slots (families_of c.self.inside.scopes.slots) c.self.inside.ready c.unlink-self-inside.result c.self.inside.tasks.held.room c.args.t c.at.result.now q c.self.invariant c.at.ensures.value refl c.unlink-self-inside.ensures.rest.tasks (rw s.fewer_are (c.unlink-self-inside.ensures.list s.front s.back p))

pub invariant_of-self : goal.invariant_of-self
invariant_of-self g c = let w = after g c in rw c.unlink-self-inside.ensures.rest.room w.is

pub returns-clause-gone : goal.returns-clause-gone
returns-clause-gone g c = let w = after g c in rw w.keys_are
    (without_own c.args.t (ready_of c.self.inside.tasks.held.slots c.self.inside.ready) c.self.invariant.is_ready.distinct)

pub returns-clause-dropped : goal.returns-clause-dropped
returns-clause-dropped g c x is =
    let w = after g c in
    let own = own_task c.self.inside.tasks.held.slots c.args.t c.at.result.now x c.at.ensures.value (rw (← c.self.view_is) at is) in
    rw (← c.self.view_is, c.unlink-self-inside.ensures.rest.room, c.unlink-self-inside.ensures.rest.keys) (seen_is _ _ _ (w.tasks ∙ (rw own refl)) w.keys_are)
