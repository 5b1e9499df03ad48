use Rattle.ends_picks.specs.declared.outcomes.Outcome.{Outcome}
use Rattle.ends_picks.specs.Outcomes.{nothing}
use Rattle.ends_picks.proofs.ListLemmas.{each_among}
use Rattle.ends_table.specs.Answered.{SumLeads}
use Rattle.ends_table.proofs.MissingLemmas.{by_ok, one_more, on_ok}
use Rattle.ends_table.proofs.around.Around.each_sum.Goals as goal

pub loop-outcome-preserved : goal.loop-outcome-preserved
loop-outcome-preserved c none =
    one_more (λ (o : Outcome). SumLeads c.args.self.now.states.now c.args.self.now.own.now c.args.scope.place c.args.scope.seen.now o.total)
    c.args.outcomes.now c.loop-outcome.outcome-index nothing c.loop-outcome-test.true
    (c.loop-outcome.invariant (c.in_ok-note.ensures.before none))
    (by_ok c.summed-step.result (c.in_ok-note.ensures.step none) c.summed-step.ensures)

pub returns : goal.returns
returns c =
    let leads = λ (o : Outcome). SumLeads c.args.self.now.states.now c.args.self.now.own.now c.args.scope.place c.args.scope.seen.now o.total in
    on_ok c.none.result c.none.ensures (λ none. each_among leads c.args.outcomes.now c.loop-outcome.outcome-index c.loop-outcome-test.false
    (c.loop-outcome.invariant none))
