use Rattle.ends_table.proofs.MissingLemmas.{on_ok}
use Rattle.ends_table.proofs.StepLemmas.{tallies_lead}
use Rattle.ends_table.proofs.around.Around.tally.Goals as goal

pub returns : goal.returns
returns c =
    let a = c.args.self.now in
    on_ok c.tallies.result c.tallies.ensures (λ led. tallies_lead a.program.now a.outside a.call.now a.states.now a.own.now c.args.slot _
    c.args.kind _ c.in_ok-scope.ensures led)
