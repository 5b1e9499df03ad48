use Rattle.look_refusal.specs.Order.{IsLast}
use Rattle.look_refusal.proofs.order.last_shown.Given as goal

-- the last of those so far
abbrev pub invariant-loop : goal.invariant-loop
invariant-loop l = IsLast l.shares l.counter l.last
