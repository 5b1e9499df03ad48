-- The budgets that are printed are those of the laws of costs.
use Rattle.std.proofs.Common.{◌≡◌, ◌<◌, List, [], ◌∷◌, ◌++◌, length, None, ap, refl, sym, ◌∙◌, subst, arith}
use Rattle.std.proofs.Math.Seq.{get_or-append_seam}
use Rattle.sts_code.specs.Checks.{program_fault}
use Rattle.sts_code.specs.Program.{Program}
use Rattle.sts_rules.specs.declared.budget.Budgets.{Budgets}
use Rattle.sts_model.specs.declared.event.Event.{Event}
use Rattle.sts_model.specs.World.{World}
use Rattle.sts_rules.specs.Budget.{budget_at, no_budget}
use Rattle.sts_rules.specs.Refusal.{IsAccepted, IsBudgetOf}
use Rattle.sts_model.specs.Run.{after}
use Rattle.sts_verify.proofs.BudgetLemmas.{budgets_more, budget_is, budget_of-one}
use Rattle.laws_runs.specs.Runs.{In}
use Rattle.laws_accepted.specs.Costs.{HasBudgets, AreTyped, main_budget}
use Rattle.laws_accepted.specs.Accepted.{main_of, BudgetsArePrinted, WithMain}

-- the budgets before those of `main`, and these
pub record Known (p : Program) (b : Budgets) : Type 0 where
  pub budgets : List Budgets
  pub have : HasBudgets p budgets
  pub main : main_budget p budgets ≡ b

pub known : (p : Program) (b : Budgets) → program_fault p.routines ≡ None → 0 < length p.routines → IsBudgetOf p (main_of p) b → Known p b
known p b checked some (earlier, (long, right, is)) =
    let more = budgets_more p earlier b (main_of p) long right is in
    let size = more.0 in
    record {
      budgets = earlier ++ b ∷ [];
      have = record { checked = checked; all = omega (arith, size, some); right = more.1 };
      main = ap (λ n. budget_at (earlier ++ b ∷ []) n) (sym long) ∙ get_or-append_seam earlier b [] no_budget;
    }

pub budgets_are_printed : (p : Program) (b : Budgets) → program_fault p.routines ≡ None → 0 < length p.routines → IsBudgetOf p (main_of p) b → BudgetsArePrinted p
budgets_are_printed p b checked some is =
    let k = known p b checked some is in (
      k.budgets,
      record {
        have = k.have;
        only = λ f c less is_c. budget_of-one p f c (budget_at k.budgets f) is_c (budget_is p k.budgets f less k.have.right (budget_at k.budgets f) refl);
      },
    )

-- a law of costs, for the printed budgets of `main`
pub with_main : (p : Program) → program_fault p.routines ≡ None → 0 < length p.routines → (P : Budgets → List Event → World → Type 0)
    → ((budgets : List Budgets) → HasBudgets p budgets → (events : List Event) → In (P (main_budget p budgets) events) (after p events))
    → WithMain p P
with_main p checked some P law b is events =
    let k = known p b checked some is in
    subst (λ c. In (P c events) (after p events)) k.main (law k.budgets k.have events)

pub all_typed : (p : Program) → IsAccepted p → AreTyped p
all_typed p accepted f low = (accepted.sound f low).typed
