use Rattle.ends_table.proofs.MissingLemmas.{on_ok}
use Rattle.std.proofs.lemmas.Option.{slice_get_within}
use Rattle.ends_table.proofs.StepLemmas.{cases_lead}
use Rattle.ends_table.proofs.around.Around.case.Goals as goal

pub cases-requires : goal.cases-requires
cases-requires c = slice_get_within _ _ _ c.in_ok-subtask.ensures.known

pub returns : goal.returns
returns c =
    let a = c.args.self.now in
    on_ok c.cases.result c.cases.ensures (λ led.
    cases_lead a.program.now a.outside a.call.now a.states.now a.own.now c.args.handle c.args.success c.args.failed _ _ _ _
    c.in_ok-subtask.ensures led)
