use Rattle.std.proofs.Common.{◌∙◌, refl, sym, ap, subst, true, ℕ, ◌≡◌}
use Rattle.laws_live.specs.Order.{IsOwned}
use Rattle.laws_live.specs.Stands.{is_stand_at}
use Rattle.sts_store.specs.contracts.store.Store.{the_view}
use Rattle.sts_store.specs.Parts.{live_of, unseen_of, stood_unseen}
use Rattle.sts_store.proofs.Seeing.{steps_seen}
use Rattle.sts_store.proofs.Stands.{stand_seen, stand_rest, own_stand}
use Rattle.sts_store.proofs.Keeping.{kept_task}
use Rattle.sts_store.proofs.Writing.{living, has_task}
use Rattle.sts_store.proofs.store.Store.stands.Goals as goal

pub stands-requires-clause-stands : goal.stands-requires-clause-stands
stands-requires-clause-stands c = has_task (living (the_view c.self.inside) c.args.self.now c.self.invariant c.self.view_is c.args.t c.requires.lives)

pub stands-requires-clause-owner : goal.stands-requires-clause-owner
stands-requires-clause-owner c =
    own_stand (the_view c.self.inside) c.args.t c.args.stand
    (subst (λ n. (s : ℕ) → is_stand_at s c.args.stand ≡ true → IsOwned (live_of n) c.args.t s) (sym c.self.view_is) c.requires.owned)

pub invariant_of-self : goal.invariant_of-self
invariant_of-self c =
    let l = living (the_view c.self.inside) c.args.self.now c.self.invariant c.self.view_is c.args.t c.requires.lives in
    kept_task c.self.invariant l (record l.task { stand = c.args.stand }) c.stands.new.self (c.stands.ensures.seen l.task l.stands) refl refl

pub returns-clause-live : goal.returns-clause-live
returns-clause-live c =
    let l = living (the_view c.self.inside) c.args.self.now c.self.invariant c.self.view_is c.args.t c.requires.lives in
    stand_seen (the_view c.self.inside) c.args.t l c.args.stand c.stands.new.self (c.stands.ensures.seen l.task l.stands)
    ∙ ap live_of c.self.view_is

pub returns-clause-unseen : goal.returns-clause-unseen
returns-clause-unseen c =
    let l = living (the_view c.self.inside) c.args.self.now c.self.invariant c.self.view_is c.args.t c.requires.lives in
    stand_rest (the_view c.self.inside) c.args.t l c.args.stand c.stands.new.self (c.stands.ensures.seen l.task l.stands)
    ∙ ap (λ n. stood_unseen (unseen_of n) c.args.t c.args.stand) c.self.view_is

pub returns-clause-can_step : goal.returns-clause-can_step
returns-clause-can_step c =
    c.stands.ensures.can_step ∙ steps_seen (record (the_view c.self.inside) { tree = c.stands.new.self }) c.args.t
