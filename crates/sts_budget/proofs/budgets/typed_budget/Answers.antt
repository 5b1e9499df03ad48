use Rattle.std.proofs.Common.{subst}
use Rattle.sts_code.specs.Program.{routine}
use Rattle.sts_budget.specs.declared.change.Resource.TheVariants.{Steps, Tasks, Scopes, Binds}
use Rattle.sts_budget.specs.Outcome.{IsFound}
use Rattle.sts_budget.proofs.ReadyLemmas.{is_typed_ready}
use Rattle.sts_budget.proofs.Found.{found_all}
use Rattle.sts_budget.proofs.budgets.typed_budget.Goals as goal

pub quick_budgets-requires : goal.quick_budgets-requires
quick_budgets-requires c = is_typed_ready c.args.program.now c.args.function c.args.earlier.now c.code_of-code.result.now
    c.lay_out-layout.result c.args.typing.now c.code_of-code.ensures.checked c.requires.in_program c.requires.long
    c.code_of-code.ensures.value c.lay_out-layout.ensures.typing c.requires.typing c.lay_out-layout.ensures.deepest

pub returns-in-Some : goal.returns-in-Some
returns-in-Some c =
    let found = rw c.in-Some.is at (c.in_ok-budgets.ensures {u = tt}) in
    found_all c.args.earlier.now c.code_of-code.result.now (routine c.args.program.now c.args.function).code c.code_of-code.ensures.value
    c.in-Some.budgets.steps c.in-Some.budgets.tasks c.in-Some.budgets.scopes c.in-Some.budgets.binds (found Steps) (found Tasks)
    (found Scopes) (found Binds)

pub budgets_in_turn-requires : goal.budgets_in_turn-requires
budgets_in_turn-requires c = is_typed_ready c.args.program.now c.args.function c.args.earlier.now c.code_of-code.result.now
    c.lay_out-layout.result c.args.typing.now c.code_of-code.ensures.checked c.requires.in_program c.requires.long
    c.code_of-code.ensures.value c.lay_out-layout.ensures.typing c.requires.typing c.lay_out-layout.ensures.deepest

pub returns : goal.returns
returns c = subst (λ code. IsFound c.args.earlier.now code c.budgets_in_turn.result) c.code_of-code.ensures.value c.budgets_in_turn.ensures
