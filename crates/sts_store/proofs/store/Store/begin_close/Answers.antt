use Rattle.std.proofs.Common.{◌≡◌, true, is_some, sym, subst, ap, ◌∙◌, arith}
use Rattle.std.proofs.lemmas.Bool.Decides.{nat_tests}
use Rattle.sts_model.specs.declared.event.Phase.TheVariants.{Closing}
use Rattle.sts_model.specs.declared.event.Stand.TheVariants.{AtClose}
use Rattle.sts_model.specs.Live.{Live}
use Rattle.laws_live.specs.Order.{IsOwned}
use Rattle.laws_live.specs.Reading.{scope_in, with_live_phase}
use Rattle.sts_store.specs.Parts.{Unseen, live_of, stood_unseen}
use Rattle.sts_store.proofs.Stands.{own_cancelled}
use Rattle.sts_store.proofs.store.Store.begin_close.Goals as goal

pub stand-requires-clause-owned : goal.stand-requires-clause-owned
stand-requires-clause-owned c r at =
    let same : c.args.s ≡ r = grind (arith, nat_tests) in
    let v = live_of c.args.self.now in
    subst (λ w. IsOwned w c.args.t r) (sym c.cancel.ensures.live) (own_cancelled v c.args.t c.args.s r (subst (IsOwned v c.args.t) same c.requires.owned))

pub cancel-requires : goal.cancel-requires
cancel-requires c = c.requires.owned.stands

pub set_phase-requires : goal.set_phase-requires
set_phase-requires c =
    let s = c.args.s in
    let owned = own_cancelled (live_of c.args.self.now) c.args.t s s c.requires.owned in
    subst (λ (v : Live). is_some (scope_in v s) ≡ true) (sym (c.stand.ensures.live ∙ c.cancel.ensures.live)) owned.stands

pub returns-clause-live : goal.returns-clause-live
returns-clause-live c =
    c.set_phase.ensures.live ∙ ap (λ (v : Live). with_live_phase v c.args.s Closing) (c.stand.ensures.live ∙ c.cancel.ensures.live)

pub returns-clause-unseen : goal.returns-clause-unseen
returns-clause-unseen c =
    c.set_phase.ensures.unseen ∙ c.stand.ensures.unseen ∙ ap (λ (u : Unseen). stood_unseen u c.args.t (AtClose c.args.s)) c.cancel.ensures.unseen
