use Rattle.ends_table.proofs.MissingLemmas.{on_ok}
use Rattle.ends_table.proofs.StepLemmas.{totals_lead}
use Rattle.ends_table.proofs.around.Around.total.Goals as goal

pub returns : goal.returns
returns c =
    let a = c.args.self.now in
    on_ok c.totals.result c.totals.ensures
    (λ led. totals_lead a.program.now a.outside a.call.now a.states.now a.own.now c.args.slot _ _ c.in_ok-scope.ensures led)
