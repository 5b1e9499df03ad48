use Rattle.ends_table.proofs.MissingLemmas.{on_ok}
use Rattle.std.proofs.Common.{subst}
use Rattle.laws_calls.specs.Steps.{Leads}
use Rattle.ends_table.proofs.StepLemmas.{local_leads}
use Rattle.ends_table.proofs.around.Around.local.Goals as goal

pub returns : goal.returns
returns c =
    let a = c.args.self.now in
    on_ok c.leads.result c.leads.ensures (λ led. local_leads a.program.now a.outside a.call.now a.states.now a.own.now c.args.instr
    c.requires (subst (λ o. Leads a.states.now o) c.in_ok-next.ensures led))
