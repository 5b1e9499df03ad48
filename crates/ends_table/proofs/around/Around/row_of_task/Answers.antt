use Rattle.std.proofs.Common.{subst}
use Rattle.laws_calls.specs.declared.table.Call.{Call}
use Rattle.laws_calls.specs.Steps.{IsRowOf}
use Rattle.ends_table.proofs.around.Around.row_of_task.Goals as goal

pub returns-in-Some : goal.returns-in-Some
returns-in-Some c = subst (λ (call : Call). IsRowOf c.args.self.now.table.now c.in-Some.row.now call) c.in_ok-call.ensures
    (rw c.in-Some.is at c.in_ok-row.ensures)
