use Rattle.std.proofs.Common.{◌≡◌, ◌+◌, length, sym, subst, ◌∙◌, Err}
use Rattle.sts_budget.specs.Outcome.{IsFound}
use Rattle.sts_code.specs.Program.{routine}
use Rattle.sts_rules.specs.Budget.{AreBudgets, IsBudget, Exceeds}
use Rattle.sts_verify.proofs.BudgetLemmas.{budgets_more}
use Rattle.sts_rules.proofs.VerdictLemmas.{are_one}
use Rattle.look_refusal.proofs.earlier.budgets_before.Goals as goal

pub budget-requires-clause-typed : goal.budget-requires-clause-typed
budget-requires-clause-typed c = (c.requires.sound c.loop-earlier.earlier c.loop-earlier-test.true).typed

pub budget-requires-clause-earlier : goal.budget-requires-clause-earlier
budget-requires-clause-earlier c = subst (AreBudgets c.args.program.now) (sym c.as_slice.ensures.value) c.loop-earlier.invariant.1

pub unreachable-requires : goal.unreachable-requires
unreachable-requires c =
    let f = c.loop-earlier.earlier in
    let code = (routine c.args.program.now f).code in
    let sound = c.requires.sound f c.loop-earlier-test.true in
    let found = subst (λ e. IsFound c.as_slice.result.now code (Err e)) c.in-Err-TooMuch.field-0-is (c.in-Err-TooMuch.ensures {u = tt}) in
    let same = are_one c.args.program.now c.loop-earlier.budgets.items sound.earlier (c.loop-earlier.invariant.0 ∙ sym sound.long)
    c.loop-earlier.invariant.1 sound.right in
    sound.within c.in-Err-TooMuch.field-0-0
    (subst (λ bs. Exceeds bs code c.in-Err-TooMuch.field-0-0) (c.as_slice.ensures.value ∙ same) found.0)

pub loop-earlier-preserved : goal.loop-earlier-preserved
loop-earlier-preserved c =
    let f = c.loop-earlier.earlier in
    subst (λ xs. (length xs ≡ f + 1) × AreBudgets c.args.program.now xs) (sym (c.in_ok-push-in-Ok.ensures {u = tt}).items)
    (budgets_more c.args.program.now c.loop-earlier.budgets.items c.in-Ok.found f c.loop-earlier.invariant.0 c.loop-earlier.invariant.1
    (subst (λ xs. IsBudget xs (routine c.args.program.now f).code c.in-Ok.found) c.as_slice.ensures.value c.in-Ok.ensures.0))
