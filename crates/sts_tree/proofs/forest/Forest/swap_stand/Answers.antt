use Rattle.std.proofs.Common.{◌≡◌, true, refl, sym, ◌∙◌, arith}
use Rattle.sts_model.specs.contracts.event.StandPartialEq.TheImpl as stand_eq
use Rattle.sts_model.specs.declared.event.Stand.{Stand}
use Rattle.sts_tree.specs.Forest.{families_of}
use Rattle.sts_tree.proofs.Stores.{rewrites, field_seen, task_at}
use Rattle.sts_tree.proofs.forest.Forest.swap_stand.Goals as goal

same_stand : (a b : Stand) → stand_eq.eq-value.it a b ≡ true → a ≡ b
same_stand a b e = grind arith

pub invariant_of-self : goal.invariant_of-self
invariant_of-self g c = (rewrites c.self.inside.tasks.held.slots (families_of c.self.inside.scopes.slots) c.self.inside.ready
    c.self.inside.tasks.held.room c.args.t c.at.result.now
    (record c.at.result.now { task = record c.at.result.now.task { stand = c.args.stand } }) c.self.invariant c.at.ensures.value refl refl
    refl refl).is

pub returns-clause-was : goal.returns-clause-was
returns-clause-was g c = rw (← c.self.view_is) (task_at c.self.inside.tasks.held.slots c.args.t c.at.result.now c.at.ensures.value)

pub returns-clause-same : goal.returns-clause-same
returns-clause-same g c e = same_stand c.at.result.now.task.stand c.args.stand (sym c.eq.ensures ∙ e)

pub returns-clause-ready : goal.returns-clause-ready
returns-clause-ready g c = rw (← c.self.view_is) (c.self.invariant.flags c.args.t c.at.result.now.task
    (task_at c.self.inside.tasks.held.slots c.args.t c.at.result.now c.at.ensures.value))

pub returns-clause-set : goal.returns-clause-set
returns-clause-set g c = rw (← c.self.view_is) (field_seen _ c.self.inside.tasks.held.slots (families_of c.self.inside.scopes.slots)
    c.self.inside.ready c.self.inside.tasks.held.room c.args.t c.at.result.now
    (record c.at.result.now { task = record c.at.result.now.task { stand = c.args.stand } }) c.at.result.now.task
    (record c.at.result.now.task { stand = c.args.stand }) c.self.invariant c.at.ensures.value refl refl refl refl
    (task_at c.self.inside.tasks.held.slots c.args.t c.at.result.now c.at.ensures.value) (λ own. refl) refl refl)
