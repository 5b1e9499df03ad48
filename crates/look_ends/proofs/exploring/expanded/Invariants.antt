use Rattle.std.proofs.Common.{◌≡◌}
use Rattle.look_ends.proofs.exploring.expanded.Given as goal

abbrev pub invariant-loop : goal.invariant-loop
invariant-loop g l = l.search ≡ l.fn.exploration
