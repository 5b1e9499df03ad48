use Rattle.std.proofs.Common.{◌+◌, ◌∙◌, subst, sym}
use Rattle.look_refusal.specs.Order.{IsNext}
use Rattle.look_refusal.proofs.OrderLemmas.{next_none, next_inside, next_taken, next_past, next_kept}
use Rattle.look_refusal.proofs.order.next_after.Goals as goal
use Rattle.look_refusal.proofs.order.next_after.Goals.{then-comes_after+then-comes_before, else-comes_after, else-comes_after-via-then-comes_after+else-comes_before, else-comes_after-via-else-comes_after}

pub loop-place-init : goal.loop-place-init
loop-place-init c = next_none c.args.shares.now c.args.last

pub comes_before-requires-clause-next : goal.comes_before-requires-clause-next
comes_before-requires-clause-next c =
    next_inside c.args.shares.now c.args.last c.loop-place.place c.loop-place.next c.loop-place.auto.place-end c.loop-place.invariant

pub loop-place-preserved : goal.loop-place-preserved
loop-place-preserved c =
    let s = c.args.shares.now in
    let l = c.loop-place in
    elim c.if-comes_after.branch [
      | then-comes_after+then-comes_before w ↦ subst (IsNext s c.args.last (l.place + 1)) (sym w.next-is) (next_taken s c.args.last l.place l.next
          (sym c.comes_after.ensures ∙ w.if-comes_after.true) (sym w.comes_before.ensures ∙ w.if-comes_before.true) l.invariant)
      | else-comes_after w ↦ subst (IsNext s c.args.last (l.place + 1)) (sym w.next-is) (elim w.else-comes_after.branch [
        | else-comes_after-via-then-comes_after+else-comes_before v ↦
            next_kept s c.args.last l.place l.next (sym v.comes_before.ensures ∙ v.if-comes_before.false) l.invariant
        | else-comes_after-via-else-comes_after v ↦ next_past s c.args.last l.place l.next (sym c.comes_after.ensures ∙ v.if-comes_after.false) l.invariant
      ])
    ]
