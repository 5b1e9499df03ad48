use Rattle.std.proofs.Common.{◌≡◌, ℕ, length, subst, arith}
use Rattle.look_refusal.specs.Order.{IsLast, IsNext}
use Rattle.look_refusal.proofs.OrderLemmas.{last_none, last_more, shown_all, shown_fewer}
use Rattle.look_refusal.proofs.order.last_shown.Goals as goal

pub loop-init : goal.loop-init
loop-init c = last_none c.args.shares.now

pub loop-preserved : goal.loop-preserved
loop-preserved c = last_more c.args.shares.now c.loop.counter c.loop.last c.in-Some.next c.loop.invariant
    (subst (IsNext c.args.shares.now c.loop.last (length c.args.shares.now)) c.in-Some.is c.next_after.ensures)

pub returns-in-None : goal.returns-in-None
returns-in-None c = shown_fewer c.args.shares.now c.loop.counter c.loop.last (omega arith) c.loop.invariant
    (subst (IsNext c.args.shares.now c.loop.last (length c.args.shares.now)) c.in-None.is c.next_after.ensures)

pub returns : goal.returns
returns c =
    let all : c.loop.counter ≡ 50 = omega arith in
    shown_all c.args.shares.now c.loop.last (subst (λ (k : ℕ). IsLast c.args.shares.now k c.loop.last) all c.loop.invariant)
