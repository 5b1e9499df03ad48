use Rattle.std.proofs.Common.{◌≡◌, []}
use Rattle.std.specs.List.{AllWithin}
use Rattle.ends_picks.specs.declared.outcomes.Outcome.{Outcome}
use Rattle.ends_table.specs.Answered.{SumLeads}
use Rattle.ends_table.proofs.around.Around.each_sum.Given as goal

abbrev pub invariant-loop-outcome : goal.invariant-loop-outcome
invariant-loop-outcome l = l.missing.states.items ≡ [] → AllWithin (λ (o : Outcome). SumLeads l.self.states.now l.self.own.now l.scope.place l.scope.seen.now o.total) l.outcomes 0 l.outcome-index
