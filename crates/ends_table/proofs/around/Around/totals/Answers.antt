use Rattle.std.proofs.Common.{ℤ, List, sym, subst}
use Rattle.laws_calls.specs.Tasks.{Among}
use Rattle.ends_picks.specs.declared.outcomes.Outcome.{Outcome}
use Rattle.ends_picks.specs.Outcomes.{outcome_of}
use Rattle.ends_picks.proofs.OutcomeLemmas.{total_is}
use Rattle.ends_table.specs.Answered.{SumLeads}
use Rattle.ends_table.proofs.MissingLemmas.{on_ok}
use Rattle.ends_table.proofs.around.Around.totals.Goals as goal

pub returns : goal.returns
returns c =
    let x = c.args.scope.seen.now in
    on_ok c.each_sum.result c.each_sum.ensures (λ sums. λ pick fits.
    let there = subst (λ (os : List Outcome). Among os (outcome_of x pick)) (sym c.as_slice.ensures.value) (c.in_ok-outcomes.ensures pick fits) in
    subst (λ (n : ℤ). SumLeads c.args.self.now.states.now c.args.self.now.own.now c.args.scope.place x n) (total_is x pick) (sums (outcome_of x pick) there))
