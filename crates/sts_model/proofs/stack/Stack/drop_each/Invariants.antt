use Rattle.std.proofs.Common.{◌≡◌, drop, reverse}
use Rattle.sts_model.proofs.stack.Stack.drop_each.Given as goal

-- `counter` values were taken off
abbrev pub invariant-loop : goal.invariant-loop
invariant-loop g l = reverse l.self-inside.values.items ≡ drop l.counter l.fn.self
