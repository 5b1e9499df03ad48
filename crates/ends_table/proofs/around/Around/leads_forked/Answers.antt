use Rattle.std.proofs.Common.{subst}
use Rattle.std.specs.Result.{OnOk}
use Rattle.laws_calls.specs.declared.table.Own.{Own}
use Rattle.laws_calls.specs.Steps.{LeadsBy}
use Rattle.ends_table.proofs.around.Around.leads_forked.Goals as goal

pub returns : goal.returns
returns c = subst (λ (o : Own). OnOk c.leads_after.result (LeadsBy c.args.born c.args.self.now.states.now o)) c.in_ok-next.ensures c.leads_after.ensures
