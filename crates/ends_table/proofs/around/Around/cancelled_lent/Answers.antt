use Rattle.ends_table.proofs.MissingLemmas.{on_ok}
use Rattle.ends_table.proofs.StepLemmas.{lent_leads}
use Rattle.ends_table.proofs.around.Around.cancelled_lent.Goals as goal

pub returns : goal.returns
returns c =
    let a = c.args.self.now in
    on_ok c.answers_by.result c.answers_by.ensures
    (λ answers. lent_leads a.program.now a.outside a.call.now a.states.now a.own.now c.args.slot c.requires answers.no answers.yes)
