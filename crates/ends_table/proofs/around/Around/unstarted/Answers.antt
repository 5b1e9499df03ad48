use Rattle.std.proofs.Common.{ℕ, List, [], subst}
use Rattle.std.specs.Result.{OnOk}
use Rattle.laws_calls.specs.declared.table.Way.{Way}
use Rattle.laws_calls.specs.Steps.{LeadsBy, forked}
use Rattle.ends_table.proofs.around.Around.unstarted.Goals as goal

pub returns : goal.returns
returns c =
    let a = c.args.self.now in
    let by = c.args.by in
    let leads = λ (born : ℕ) (ways : List Way). OnOk c.leads_forked.result
    (LeadsBy born a.states.now (forked a.program.now a.own.now by.scope.place by.scope.seen.now ways by.function by.handle)) in
    subst (λ (n : ℕ). leads n []) c.per_birth-born.ensures
    (subst (λ (ways : List Way). leads c.per_birth-born.result ways) c.in_ok-none.ensures c.leads_forked.ensures)
