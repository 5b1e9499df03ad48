use Rattle.std.proofs.Common.{ℕ, subst}
use Rattle.laws_calls.specs.Steps.{LeadsBy, forked}
use Rattle.ends_table.proofs.MissingLemmas.{on_ok}
use Rattle.ends_table.proofs.around.Around.started.Goals as goal

pub returns : goal.returns
returns c =
    let a = c.args.self.now in
    let by = c.args.by in
    let row = c.in_ok-row.row.now in
    on_ok c.leads_forked.result c.leads_forked.ensures (λ leads. λ x.
    record {
      row = row;
      is_row = c.in_ok-row.ensures;
      leads = subst (λ (n : ℕ). LeadsBy n a.states.now
          (forked a.program.now a.own.now by.scope.place by.scope.seen.now row.ways by.function by.handle)) c.in_ok-born.ensures leads;
    })
