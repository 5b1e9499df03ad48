use Rattle.std.proofs.Common.{◌≡◌, Bool, ◌&&◌, refl, sym, ◌∙◌, ap, subst}
use Rattle.std.proofs.lemmas.Option.{same_Some}
use Rattle.sts_model.specs.declared.event.Stand.{Stand}
use Rattle.sts_tree.specs.Forest.{Forest}
use Rattle.sts_tree.specs.Steps.{IsTree, can_go, can_step, seen, with_task}
use Rattle.sts_tree.proofs.Keeping.{steps_own, steps_task, owned_task, same_task, settled}
use Rattle.sts_tree.proofs.SeeingLemmas.{same_steps}
use Rattle.sts_tree.proofs.tree.Tree.stands.Goals as goal
use Rattle.sts_tree.proofs.tree.Tree.stands.Goals.{then-was, else-was}

-- the stand was there before: nothing changes
unchanged : (g : _) (c : goal.Then-is_same g) → c.swap_stand-is_same.new.self ≡ c.self.inside.forest
unchanged g c =
    let f = c.self.inside.forest in
    let x = c.swap_stand-is_same.result.0 in
    c.swap_stand-is_same.ensures.set
    ∙ ap (λ (q : Stand). with_task f c.args.t (record x { stand = q })) (sym (c.swap_stand-is_same.ensures.same c.if-is_same.true))
    ∙ same_task f c.args.t x c.swap_stand-is_same.ensures.was

pub invariant_of-self : goal.invariant_of-self
invariant_of-self g c = subst IsTree (sym (unchanged g c)) c.self.invariant

pub returns-then-is_same-clause-seen : goal.returns-then-is_same-clause-seen
returns-then-is_same-clause-seen g c x is =
    let own = same_Some c.swap_stand-is_same.result.0 x (sym c.swap_stand-is_same.ensures.was ∙ (rw (← c.self.view_is) at is)) in
    rw (← c.self.view_is, ← own) (ap (λ (h : Forest _). seen h) c.swap_stand-is_same.ensures.set)

pub returns-then-is_same-clause-can_step : goal.returns-then-is_same-clause-can_step
returns-then-is_same-clause-can_step g c =
    c.swap_stand-is_same.ensures.ready ∙ c.self.invariant.ready c.args.t ∙ sym (ap (λ h. can_step h c.args.t) (unchanged g c))

pub invariant_of-self-2 : goal.invariant_of-self-2
invariant_of-self-2 g c =
    let f = c.self.inside.forest in
    let x = c.swap_stand-is_same.result.0 in
    let y = record x { stand = c.args.stand } in
    let is = c.swap_stand-is_same.ensures.was in
    let one_is = c.swap_stand-is_same.ensures.set in
    settled f c.swap_stand-is_same.new.self c.settle_at.new.forest c.args.t c.self.invariant (ap (λ h. h.ready) one_is)
    (λ u ne. rw one_is (steps_task f c.args.t u x y is refl refl ne))
    (rw one_is (owned_task f c.args.t x y c.self.invariant.owned is (λ s l st. (rw (← c.self.view_is) at c.requires.owner) s st)))
    c.settle_at.ensures.seen c.settle_at.ensures.ready

pub returns-clause-can_step : goal.returns-clause-can_step
returns-clause-can_step g c =
    let x = c.swap_stand-is_same.result.0 in
    let mid = c.swap_stand-is_same.new.self in
    let go = λ (b : Bool). b && can_go mid x.flag c.args.stand in
    let own : can_step mid c.args.t ≡ go x.lives =
    rw c.swap_stand-is_same.ensures.set (steps_own c.self.inside.forest c.args.t x (record x { stand = c.args.stand }) c.swap_stand-is_same.ensures.was) in
    let is : c.if-was.can_step ≡ go x.lives = elim c.if-was.branch [
      | then-was w ↦ let s = ap go w.if-was.true in cc (s, w.can_step-is, w.can_go-can_step.ensures)
      | else-was w ↦ let s = ap go w.if-was.false in cc (s, w.can_step-is)
    ] in
    is ∙ sym own ∙ sym (same_steps c.settle_at.new.forest mid c.settle_at.ensures.seen c.args.t)
