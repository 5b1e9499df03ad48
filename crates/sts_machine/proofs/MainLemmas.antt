-- The budget of `main` that a machine and a book keep.
use Rattle.std.proofs.Common.{List}
use Rattle.sts_code.specs.Program.{Program}
use Rattle.sts_rules.specs.declared.budget.Budgets.{Budgets}
use Rattle.sts_rules.specs.Refusal.{IsBudgetOf}
use Rattle.sts_model.specs.declared.event.Event.{Event}
use Rattle.sts_verify.proofs.BudgetLemmas.{budget_of-one}
use Rattle.laws_accepted.specs.Accepted.{main_of}
use Rattle.laws_accepted.specs.EveryRun.{RunsWell}
use Rattle.sts_machine.specs.Laws.{MainBudget}

-- it is the only one that is printed, and every run keeps `RunsWell` with it
abbrev pub main_budget : (p : Program) (b : Budgets) → IsBudgetOf p (main_of p) b → ((events : List Event) → RunsWell p b events) → MainBudget p
main_budget p b printed runs_well = record { budget = b; printed = printed; alone = λ other is. budget_of-one p (main_of p) other b is printed; runs_well = runs_well }
