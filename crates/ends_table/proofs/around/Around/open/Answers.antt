use Rattle.ends_table.proofs.MissingLemmas.{on_ok}
use Rattle.std.proofs.Common.{ℕ, subst}
use Rattle.laws_calls.specs.declared.table.Own.{Own}
use Rattle.laws_calls.specs.Steps.{LeadsBy, opened}
use Rattle.ends_table.proofs.StepLemmas.{open_leads}
use Rattle.ends_table.proofs.around.Around.open.Goals as goal

pub returns : goal.returns
returns c =
    let a = c.args.self.now in
    on_ok c.leads_after.result c.leads_after.ensures (λ led. let next =
    subst (λ (o : Own). LeadsBy c.per_birth.result a.states.now o) c.in_ok-next.ensures led in
    open_leads a.program.now a.outside a.call.now a.states.now a.own.now c.args.slot c.args.joiner c.args.timed
    (subst (λ (n : ℕ). LeadsBy n a.states.now (opened a.call.now a.own.now c.args.slot c.args.joiner c.args.timed)) c.per_birth.ensures
    next))
