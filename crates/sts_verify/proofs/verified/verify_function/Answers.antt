use Rattle.std.proofs.Common.{length, Ok, Err, sym, ap, subst, arith}
use Rattle.sts_code.specs.Program.{routine}
use Rattle.sts_rules.specs.Budget.{AreBudgets}
use Rattle.sts_budget.specs.Outcome.{IsFound}
use Rattle.sts_budget.proofs.CheckedLemmas.{is_checked}
use Rattle.sts_verify.specs.Verifying.{TellsOf}
use Rattle.sts_verify.proofs.Verifying.{typing_refused, budget_tells, budgets_found}
use Rattle.sts_verify.proofs.verified.verify_function.Goals as goal

pub returns-in_err-typing : goal.returns-in_err-typing
returns-in_err-typing c = typing_refused c.args.program.now c.args.function c.in_err-typing.field-0.0 c.from_residual.result _
    c.in_err-typing.ensures c.from_residual.ensures.1

pub typed_budget-requires-clause-earlier : goal.typed_budget-requires-clause-earlier
typed_budget-requires-clause-earlier c = subst (AreBudgets c.args.program.now) (sym c.as_slice.ensures.value) c.requires.right

pub at_end-requires : goal.at_end-requires
at_end-requires c =
    let k = is_checked c.args.program.now c.args.function c.code_of-count.ensures.checked c.requires.in_program in
    omega (arith, k.short, ap length c.code_of-count.ensures.value)

pub returns-in-Ok-push : goal.returns-in-Ok-push
returns-in-Ok-push c =
    let found = subst (λ bs. IsFound bs (routine c.args.program.now c.args.function).code (Ok c.in-Ok.found)) c.as_slice.ensures.value
    c.in-Ok.ensures in
    budgets_found c.args.program.now c.args.function c.args.budgets.now.items c.push.new.self.items c.in-Ok.found c.in_ok-typing.ensures.clear
    c.requires.long c.requires.right found c.in-Ok-push.ensures.items

pub returns : goal.returns
returns c =
    subst (TellsOf c.args.program.now c.args.function) (sym c.at_end.ensures)
    (budget_tells c.args.program.now c.args.function c.args.budgets.now.items c.in-Err.error (length c.code_of-count.result.now)
    c.in_ok-typing.ensures.clear c.requires.long c.requires.right (ap length c.code_of-count.ensures.value)
    (subst (λ bs. IsFound bs (routine c.args.program.now c.args.function).code (Err c.in-Err.error)) c.as_slice.ensures.value
    c.in-Err.ensures))
