use Rattle.std.proofs.Common.{true, cond, refl, ap, sym, ◌∙◌}
use Rattle.laws_live.specs.Reading.{with_alive}
use Rattle.sts_store.specs.contracts.store.Store.{the_view}
use Rattle.sts_store.specs.Parts.{live_of, unseen_of}
use Rattle.sts_store.proofs.Flags.{flagged, flag_seen, flag_rest}
use Rattle.sts_store.proofs.Keeping.{kept_task}
use Rattle.sts_store.proofs.Writing.{living, has_task}
use Rattle.sts_store.proofs.store.Store.interrupt.Goals as goal

pub raise-requires : goal.raise-requires
raise-requires c = has_task (living (the_view c.self.inside) c.args.self.now c.self.invariant c.self.view_is c.args.t c.requires)

pub invariant_of-self : goal.invariant_of-self
invariant_of-self c =
    let l = living (the_view c.self.inside) c.args.self.now c.self.invariant c.self.view_is c.args.t c.requires in
    kept_task c.self.invariant l (record l.task { flag = true }) c.raise.new.self (c.raise.ensures l.task l.stands) refl refl

pub returns-clause-live : goal.returns-clause-live
returns-clause-live c =
    let m = the_view c.self.inside in
    let now = c.args.self.now in
    let l = living m now c.self.invariant c.self.view_is c.args.t c.requires in
    flag_seen m c.args.t l true c.raise.new.self (c.raise.ensures l.task l.stands)
    ∙ ap (λ p. with_alive (live_of p) c.args.t (flagged true)) c.self.view_is
    ∙ sym (ap (λ b. cond b (with_alive (live_of now) c.args.t (flagged true)) (live_of now)) c.requires)

pub returns-clause-unseen : goal.returns-clause-unseen
returns-clause-unseen c =
    let l = living (the_view c.self.inside) c.args.self.now c.self.invariant c.self.view_is c.args.t c.requires in
    flag_rest (the_view c.self.inside) c.args.t l true c.raise.new.self (c.raise.ensures l.task l.stands)
    ∙ ap unseen_of c.self.view_is
