use Rattle.std.proofs.Common.{◌≡◌, ℕ, ◌≤◌, ◌<◌, []}
use Rattle.ends_table.specs.Answered.{CountLeads}
use Rattle.ends_table.proofs.around.Around.tallies.Given as goal

abbrev pub invariant-loop-count : goal.invariant-loop-count
invariant-loop-count l = l.missing.states.items ≡ [] → (n : ℕ) → l.least ≤ n → n < l.count → CountLeads l.self.states.now l.self.own.now l.scope.place l.scope.seen.now l.kind n
