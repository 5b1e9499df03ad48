-- The sums of all resources in one pass (this project's own).
use Rattle.std.specs.Prelude.{◌≡◌, ℕ, ◌-◌, ◌≤◌, List, length}
use Rattle.sts_code.specs.declared.instr.Instr.{Instr}
use Rattle.sts_rules.specs.declared.budget.Budgets.{Budgets}
use Rattle.sts_budget.specs.declared.change.Resource.{Resource}
use Rattle.sts_budget.specs.declared.change.Resource.TheVariants.{Steps, Tasks, Scopes, Binds}
use Rattle.sts_budget.specs.declared.greatest.Top.{Top}
use Rattle.sts_budget.specs.declared.pass.Pass.{Pass}
use Rattle.sts_budget.specs.declared.together.Handed.{Handed}
use Rattle.sts_budget.specs.declared.together.Source.{Source}
use Rattle.sts_budget.specs.declared.together.Tables.{Tables}
use Rattle.sts_budget.specs.declared.together.Tops.{Tops}
use Rattle.sts_budget.specs.Change.{limit_of, own_of, IsMost}
use Rattle.sts_budget.specs.Last.{HasBases, IsTop}

-- p is the pass over the function for the resource k
pub record IsPassOf (s : Source) (k : Resource) (p : Pass) : Type 0 where
  pub resource : p.resource ≡ k
  pub earlier : p.earlier.now ≡ s.earlier.now
  pub code : p.code.now ≡ s.code.now
  pub layout : p.layout.now ≡ s.layout.now
  pub most : p.most ≡ limit_of k - own_of k

-- the table of a resource
abbrev pub rows_of : {n : ℕ} → Tables n → Resource → List (List ℕ)
rows_of t Steps = t.steps.items
rows_of t Tasks = t.tasks.items
rows_of t Scopes = t.scopes.items
rows_of t Binds = t.binds.items

-- each table has this many rows
abbrev pub AreLong : {n : ℕ} → Tables n → ℕ → Type 0
AreLong t places = (k : Resource) → length (rows_of t k) ≡ places

-- the sums of a resource that are handed on
abbrev pub sums_of : {n : ℕ} → Handed n → Resource → List ℕ
sums_of h Steps = h.steps
sums_of h Tasks = h.tasks
sums_of h Scopes = h.scopes
sums_of h Binds = h.binds

-- the greatest sums of a resource
abbrev pub top_of : Tops → Resource → Top
top_of t Steps = t.steps
top_of t Tasks = t.tasks
top_of t Scopes = t.scopes
top_of t Binds = t.binds

-- the budget of a resource
abbrev pub budget_of : Budgets → Resource → ℕ
budget_of b Steps = b.steps
budget_of b Tasks = b.tasks
budget_of b Scopes = b.scopes
budget_of b Binds = b.binds

-- over how many entries the sums of a resource go where n are open
abbrev pub over_open : Resource → ℕ → ℕ
over_open Steps n = 0
over_open _ n = n

-- how many sums a row of a resource has
abbrev pub width : ℕ → Resource → ℕ
width n Steps = 1
width n _ = n

-- the limit for the sums of a resource
abbrev pub most : Resource → ℕ
most k = limit_of k - own_of k

-- the greatest sums are those of the places before pc, and none is over its limit
abbrev pub AreTopped : {n : ℕ} → Source → Tables n → ℕ → Tops → Type 0
AreTopped s tables pc tops =
    (k : Resource)
    → HasBases k s.earlier.now s.code.now s.layout.now (rows_of tables k) pc
    (top_of tops k).bases.items
    × IsTop k s.earlier.now s.code.now s.layout.now (rows_of tables k) pc (top_of tops k).greatest
    × ((top_of tops k).greatest ≤ most k)

-- these are the budgets, and none is over its limit
abbrev pub AreMost : List Budgets → List Instr → Budgets → Type 0
AreMost earlier code b =
    (k : Resource) → IsMost k earlier code (budget_of b k) × (budget_of b k ≤ limit_of k)
