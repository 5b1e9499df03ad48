use Rattle.std.proofs.Common.{◌≡◌, [], replicate}
use Rattle.look_refusal.proofs.leads.none.Given as goal

abbrev pub invariant-loop : goal.invariant-loop
invariant-loop l = l.lists.items ≡ replicate l.counter []
