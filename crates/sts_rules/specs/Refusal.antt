-- Which programs are accepted, and where and why the others are refused (this project's own).
use Rattle.std.specs.Prelude.{◌≡◌, ℕ, ◌<◌, List, length}
use Rattle.sts_code.specs.Program.{Program, routine}
use Rattle.sts_rules.specs.declared.typing.Cause.{Cause}
use Rattle.sts_rules.specs.declared.budget.Budgets.{Budgets}
use Rattle.sts_rules.specs.Budget.{AreBudgets, Exceeds, IsLeastExcess, IsBudget}
use Rattle.sts_rules.specs.Flow as flow
use Rattle.sts_rules.specs.Edges.{typing}

-- the number of instructions of a function
abbrev pub size : Program → ℕ → ℕ
size p f = length (routine p f).code

-- no cause from V1 to V16 at any place of the function
abbrev pub IsWellTyped : Program → ℕ → Type 0
IsWellTyped p f = flow.IsAccepted (typing p f) (size p f)

-- the first place of the function with a cause from V1 to V16, and the cause that is named there
abbrev pub IsTypeRefusal : Program → ℕ → ℕ → Cause → Type 0
IsTypeRefusal p f pc c = flow.IsRefusal (typing p f) (size p f) pc c

-- no place of the function has a cause
pub record IsSound (p : Program) (f : ℕ) : Type 0 where
  pub typed : IsWellTyped p f
  -- the budgets of the functions before it; its own are within the limits
  pub earlier : List Budgets
  pub long : length earlier ≡ f
  pub right : AreBudgets p earlier
  pub within : (c : Cause) → ¬ Exceeds earlier (routine p f).code c

-- the first place of the function that has a cause, and the cause that is named there
pub data IsUnsound (p : Program) (f : ℕ) : ℕ → Cause → Type 0 where
  ill_typed : {pc : ℕ} {c : Cause} → IsTypeRefusal p f pc c → IsUnsound p f pc c
  -- a cause from V17 to V20, at the place after its last instruction
  too_much : (earlier : List Budgets) {c : Cause} → IsWellTyped p f → length earlier ≡ f
      → AreBudgets p earlier → IsLeastExcess earlier (routine p f).code c
      → IsUnsound p f (size p f) c

-- a program's refusal: the first function with a cause, its first place with a cause, and the cause
-- that is named there
abbrev pub IsRefusal : Program → ℕ → ℕ → Cause → Type 0
IsRefusal p f pc c =
    (f < length p.routines) × IsUnsound p f pc c × ((earlier : ℕ) → earlier < f → IsSound p earlier)

-- no place of the program has a cause
pub record IsAccepted (p : Program) : Type 0 where
  pub sound : (f : ℕ) → f < length p.routines → IsSound p f

-- acceptance and refusal exclude each other, and a program has at most one refusal
pub record IsOneVerdict (p : Program) : Type 0 where
  pub apart : (f pc : ℕ) (c : Cause) → IsAccepted p → ¬ IsRefusal p f pc c
  pub alone : (f g pc qc : ℕ) (c d : Cause) → IsRefusal p f pc c → IsRefusal p g qc d
      → (f ≡ g) × (pc ≡ qc) × (c ≡ d)

-- these are the budgets of the function
abbrev pub IsBudgetOf : Program → ℕ → Budgets → Type 0
IsBudgetOf p f b =
    (earlier : List Budgets)
    × ((length earlier ≡ f) × AreBudgets p earlier × IsBudget earlier (routine p f).code b)
