use Rattle.std.proofs.Common.{◌≡◌, true, sym, ◌∙◌, ap, subst}
use Rattle.sts_model.specs.declared.event.Stand.{Stand}
use Rattle.sts_model.specs.Live.{Live}
use Rattle.sts_store.specs.Parts.{Unseen, live_of, unseen_of, stood_unseen}
use Rattle.laws_live.specs.Stands.{is_stand_at}
use Rattle.sts_machine.specs.Standing.{AreStanding}
use Rattle.sts_machine.proofs.CanStep.{can_same}
use Rattle.sts_machine.proofs.Stood.{stands_anew}
use Rattle.sts_machine.proofs.stands.say_stand.Goals as goal
use Rattle.sts_machine.proofs.stands.say_stand.Goals.{After-stands}

pub stands-requires-clause-owned : goal.stands-requires-clause-owned
stands-requires-clause-owned c = λ s e.
    c.stands_are_owned.ensures c.args.program.now (live_of c.args.store.now) c.requires.order c.args.t s
    (subst (λ (q : Stand). is_stand_at s q ≡ true) c.stand_at-stand.ensures e)

-- what is recorded agrees with the view
standing : (c : After-stands) → AreStanding c.args.program.now (live_of c.stands.new.self) (unseen_of c.stands.new.self)
standing c =
    let m = c.args.store.now in
    let p = c.args.program.now in
    let t = c.args.t in
    let said = c.stands.ensures.unseen ∙ ap (λ (q : Stand). stood_unseen (unseen_of m) t q) c.stand_at-stand.ensures in
    subst (λ (x : Live). AreStanding p x (unseen_of c.stands.new.self)) (sym c.stands.ensures.live)
    (subst (λ (w : Unseen). AreStanding p (live_of m) w) (sym said)
    (stands_anew p m t c.requires.others c.requires.lives))

pub returns-then-waited-clause-standing : goal.returns-then-waited-clause-standing
returns-then-waited-clause-standing c = standing (goal.at.returns-then-waited-clause-standing c).After-stands

pub returns-then-waited-clause-can_step : goal.returns-then-waited-clause-can_step
returns-then-waited-clause-can_step c =
    let known = goal.at.returns-then-waited-clause-can_step c in
    c.stands.ensures.can_step ∙ can_same c.args.program.now c.stands.new.self (standing known.After-stands) c.args.t
