-- Facts of every state of every run of an accepted program, with the budgets that are printed for
-- it (this project's own).
use Rattle.std.specs.Prelude.{◌≡◌, ℕ, ◌-◌, ◌<◌, List, length, true}
use Rattle.sts_code.specs.Program.{Program}
use Rattle.sts_rules.specs.declared.budget.Budgets.{Budgets}
use Rattle.sts_model.specs.declared.event.Event.{Event}
use Rattle.sts_model.specs.World.{World, task_at}
use Rattle.sts_model.specs.Living.{lives}
use Rattle.sts_rules.specs.Budget.{budget_at}
use Rattle.sts_rules.specs.Refusal.{IsBudgetOf}
use Rattle.sts_model.specs.Run.{after, taken}
use Rattle.laws_runs.specs.Runs.{In}
use Rattle.laws_accepted.specs.Typed.{IsFineAt}
use Rattle.laws_accepted.specs.Costs.{HasBudgets, HasRoom, IsModest}

-- ---- the budgets that are printed

-- `main` is the last function
abbrev pub main_of : Program → ℕ
main_of p = length p.routines - 1

-- the budgets of all functions in order: each function has these, and no others
pub record ArePrinted (p : Program) (budgets : List Budgets) : Type 0 where
  pub have : HasBudgets p budgets
  pub only : (f : ℕ) (b : Budgets) → f < length budgets → IsBudgetOf p f b → b ≡ budget_at budgets f

-- some budgets are those that are printed
abbrev pub BudgetsArePrinted : Program → Type 0
BudgetsArePrinted p = (budgets : List Budgets) × ArePrinted p budgets

-- in every state of every run, with the budgets of `main`
abbrev pub WithMain : Program → (Budgets → List Event → World → Type 0) → Type 0
WithMain p P =
    (b : Budgets) → IsBudgetOf p (main_of p) b
    → (events : List Event) → In (P b events) (after p events)

-- ---- the laws

-- no living task misuses anything: it is at an instruction, and no row of misuse applies to it
abbrev pub AllFine : Program → World → Type 0
AllFine p w = (t : ℕ) → lives (task_at w t) ≡ true → IsFineAt p w t

abbrev pub LivingTasksAreFine : Program → Type 0
LivingTasksAreFine p = (events : List Event) → In (AllFine p) (after p events)

-- while a task lives a step is left
abbrev pub HasStepsLeft : Program → Budgets → List Event → World → Type 0
HasStepsLeft p b events w = (t : ℕ) → lives (task_at w t) ≡ true → taken p events < b.steps

abbrev pub AStepIsLeft : Program → Type 0
AStepIsLeft p = WithMain p (HasStepsLeft p)

-- there is room for what the next instruction of a living task opens, binds or forks
abbrev pub RoomIsLeft : Program → Type 0
RoomIsLeft p = WithMain p (λ b events w. HasRoom p b w)

-- no limit is passed
abbrev pub LimitsHold : Program → Type 0
LimitsHold p = (events : List Event) → In (IsModest p events) (after p events)
