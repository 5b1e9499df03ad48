-- The answers for the budgets of a function (this project's own).
use Rattle.std.specs.Prelude.{◌≡◌, ◌≤◌, ℕ, List, Result, Ok, Err}
use Rattle.sts_code.specs.declared.instr.Instr.{Instr}
use Rattle.sts_rules.specs.declared.typing.Cause.{Cause}
use Rattle.sts_rules.specs.declared.budget.Budgets.{Budgets}
use Rattle.sts_rules.specs.Budget.{IsBudget, IsLeastExcess, Exceeds}
use Rattle.sts_budget.specs.declared.change.Resource.{Resource}
use Rattle.sts_budget.specs.Change.{cause_of, limit_of, IsMost}
use Rattle.sts_budget.specs.declared.budgets.BudgetError.{BudgetError}
use Rattle.sts_budget.specs.declared.budgets.BudgetError.TheVariants.{Memory, TooMuch}

-- the budgets, all within their limits, or the lowest-numbered cause that a budget over its limit
-- gives; no claim is made if memory ran out
abbrev pub IsFound : List Budgets → List Instr → Result Budgets BudgetError → Type 0
IsFound earlier code (Ok b) = IsBudget earlier code b × ((c : Cause) → ¬ Exceeds earlier code c)
IsFound earlier code (Err (TooMuch c)) = IsLeastExcess earlier code c
IsFound earlier code (Err Memory) = Unit {0}

-- the budget of one resource within its limit, or its cause if it is over; no claim is made if
-- memory ran out
abbrev pub IsNumber : Resource → List Budgets → List Instr → Result ℕ BudgetError → Type 0
IsNumber k earlier code (Ok m) = IsMost k earlier code m × (m ≤ limit_of k)
IsNumber k earlier code (Err (TooMuch c)) = (c ≡ cause_of k) × Exceeds earlier code (cause_of k)
IsNumber k earlier code (Err Memory) = Unit {0}
