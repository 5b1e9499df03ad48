use Rattle.std.proofs.Common.{ap, ap₂, ◌∙◌}
use Rattle.std.proofs.lemmas.Result.{IfOk-weaker}
use Rattle.serde_json.specs.View.{items_of}
use Rattle.sts_code.specs.Program.{Program}
use Rattle.look_cases.specs.Answer as def
use Rattle.look_cases.proofs.verdicts.accepted.Goals as goal

pub returns : goal.returns
returns c =
    let functions_are = c.functions-functions.ensures.value ∙ ap (λ (q : Program). q.routines) c.program.ensures.value in
    let same = ap₂ (λ rs bs. items_of (def.budget_list rs bs)) functions_are c.as_slice.ensures.value in
    let list = IfOk-weaker c.budget_list.result _ _ (λ l h. h ∙ same) c.budget_list.ensures in
    IfOk-weaker c.accepted_with.result _ _
    (λ v h text. def.accepts c.in_ok-budgets.budgets.items c.program.ensures.accepted c.in_ok-budgets.ensures h)
    (c.accepted_with.ensures _ list)
