use Rattle.std.proofs.Common.{refl}
use Rattle.sts_tree.specs.Forest.{families_of}
use Rattle.sts_tree.proofs.Stores.{rewrites, field_seen}
use Rattle.sts_tree.proofs.forest.Forest.set_flag.Goals as goal

pub invariant_of-self : goal.invariant_of-self
invariant_of-self g c = (rewrites c.self.inside.tasks.held.slots (families_of c.self.inside.scopes.slots) c.self.inside.ready
    c.self.inside.tasks.held.room c.args.t c.at.result.now
    (record c.at.result.now { task = record c.at.result.now.task { flag = c.args.flag } }) c.self.invariant c.at.ensures.value refl refl
    refl refl).is

pub returns : goal.returns
returns g c x is = rw (← c.self.view_is) (field_seen _ c.self.inside.tasks.held.slots (families_of c.self.inside.scopes.slots)
    c.self.inside.ready c.self.inside.tasks.held.room c.args.t c.at.result.now
    (record c.at.result.now { task = record c.at.result.now.task { flag = c.args.flag } }) x (record x { flag = c.args.flag })
    c.self.invariant c.at.ensures.value refl refl refl refl (rw (← c.self.view_is) at is) (λ own. rw own refl) refl refl)
