use Rattle.look_refusal.specs.Order.{IsNext}
use Rattle.look_refusal.proofs.order.next_after.Given as goal

-- the first of those so far
abbrev pub invariant-loop-place : goal.invariant-loop-place
invariant-loop-place l = IsNext l.shares l.last l.place l.next
