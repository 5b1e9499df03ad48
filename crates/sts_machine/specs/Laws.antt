-- The laws that a machine relies on (this project's own).
use Rattle.std.specs.Prelude.{◌≡◌, ℕ, List}
use Rattle.sts_code.specs.Program.{Program}
use Rattle.sts_rules.specs.declared.budget.Budgets.{Budgets}
use Rattle.sts_rules.specs.Refusal.{IsBudgetOf}
use Rattle.sts_model.specs.declared.event.Event.{Event}
use Rattle.sts_model.specs.Live.{Live}
use Rattle.laws_live.specs.Seen.{StandsAt, TurnsAreSeen}
use Rattle.laws_live.specs.Fine.{TurnsAreSafe}
use Rattle.laws_live.specs.Order.{InOrder}
use Rattle.laws_accepted.specs.Accepted.{main_of, LimitsHold}
use Rattle.laws_accepted.specs.EveryRun.{RunsWell}
use Rattle.laws_accepted.specs.Views.{ViewsHaveRoom}

-- the budgets of `main` that are printed; every run keeps `RunsWell` with them
pub record MainBudget (p : Program) : Type 0 where
  pub budget : Budgets
  pub printed : IsBudgetOf p (main_of p) budget
  pub alone : (b : Budgets) → IsBudgetOf p (main_of p) b → b ≡ budget
  pub runs_well : (events : List Event) → RunsWell p budget events

-- the laws of a program; they hold for each verified one
pub record HasLaws (p : Program) : Type 0 where
  pub turns : TurnsAreSeen p
  pub safe : TurnsAreSafe p
  pub order : (events : List Event) (v : Live) (n : ℕ) → StandsAt p events v n → InOrder v
  pub room : ViewsHaveRoom p
  pub limits : LimitsHold p
  pub main : MainBudget p
