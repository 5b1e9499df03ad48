-- Laws of the budgets for every point of every control path (this project's own).
use Rattle.std.specs.Prelude.{◌≡◌, ℕ, ◌+◌, ◌<◌, ◌≤◌, List, length, Option}
use Rattle.sts_code.specs.declared.instr.Instr.{Instr}
use Rattle.sts_code.specs.declared.instr.Instr.TheVariants.{Fork}
use Rattle.sts_code.specs.Program.{Program, instr_at, routine}
use Rattle.sts_rules.specs.declared.budget.Budgets.{Budgets}
use Rattle.sts_rules.specs.ControlPaths.{OpenEntry, Loops, Comes, PathCounts}
use Rattle.sts_rules.specs.Budget.{IsBudget, skeleton, steps_of, budget_at, tasks_sum, scopes_sum}
use Rattle.sts_rules.specs.Budget.{binds_sum}
use Rattle.sts_rules.specs.Refusal.{IsWellTyped}

-- the function is one of the program's and well typed, and these are its budgets
pub record IsBudgeted (p : Program) (f : ℕ) (earlier : List Budgets) (b : Budgets) : Type 0 where
  pub in_program : f < length p.routines
  pub typed : IsWellTyped p f
  pub budget : IsBudget earlier (routine p f).code b

-- each point of a control path is on a whole path: with its own steps it counts at most what some
-- whole path counts
abbrev pub PointsLieOnPaths : List Budgets → List Instr → Type 0
PointsLieOnPaths earlier code =
    (pc : ℕ) (loops : Loops) (before : ℕ) (es : List OpenEntry)
    → Comes (skeleton earlier code) pc loops before es
    → (m : ℕ)
    × (PathCounts (skeleton earlier code) m × (before + steps_of earlier (instr_at code pc) ≤ m))

-- no point passes a budget
abbrev pub PointsAreWithin : List Budgets → List Instr → Budgets → Type 0
PointsAreWithin earlier code b =
    (pc : ℕ) (loops : Loops) (before : ℕ) (es : List OpenEntry)
    → Comes (skeleton earlier code) pc loops before es
    → (before + steps_of earlier (instr_at code pc) ≤ b.steps) × (tasks_sum earlier es ≤ b.tasks)
    × (scopes_sum earlier es ≤ b.scopes) × (binds_sum earlier es ≤ b.binds)

-- at a fork the budgets of the subtask are part of the forker's, added to what the open entries
-- count there
abbrev pub ChildrenArePart : List Budgets → List Instr → Budgets → Type 0
ChildrenArePart earlier code b =
    (pc : ℕ) (loops : Loops) (before : ℕ) (es : List OpenEntry)
    → Comes (skeleton earlier code) pc loops before es
    → (slot child : ℕ) (handle : Option ℕ) → instr_at code pc ≡ Fork slot child handle
    → (before + 1 + (budget_at earlier child).steps ≤ b.steps)
    × (tasks_sum earlier es + (budget_at earlier child).tasks ≤ b.tasks)
    × (scopes_sum earlier es + (budget_at earlier child).scopes ≤ b.scopes)
    × (binds_sum earlier es + (budget_at earlier child).binds ≤ b.binds)
