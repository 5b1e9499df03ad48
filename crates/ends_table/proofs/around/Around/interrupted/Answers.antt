use Rattle.ends_table.proofs.MissingLemmas.{on_ok}
use Rattle.std.proofs.Common.{◌∙◌}
use Rattle.ends_table.proofs.StepLemmas.{interrupted_leads}
use Rattle.ends_table.proofs.around.Around.interrupted.Goals as goal

pub returns : goal.returns
returns c =
    let a = c.args.self.now in
    on_ok c.answers_by.result c.answers_by.ensures (λ answers. interrupted_leads a.program.now a.outside a.call.now a.states.now a.own.now
    answers.no (λ may. answers.yes (c.may_flag.ensures ∙ may)))
