-- A path, or a point of one, that is over its budget (this project's own).
use Rattle.std.specs.Prelude.{◌≡◌, ℕ, ◌+◌, ◌<◌, ◌≤◌, ◌⊎◌, List, length, get_or}
use Rattle.sts_code.specs.declared.instr.Instr.{Instr}
use Rattle.sts_code.specs.declared.limits.TheConstants.{MAX_INSTRUCTIONS}
use Rattle.sts_code.specs.Program.{Program, routine}
use Rattle.sts_rules.specs.declared.budget.Budgets.{Budgets}
use Rattle.sts_rules.specs.Budget.{AreBudgets, skeleton, tasks_sum, scopes_sum, binds_sum}
use Rattle.sts_rules.specs.ControlPaths.{Skeleton, Loops, OpenEntry, Comes, EndsPath}
use Rattle.sts_budget.specs.declared.change.Resource.{Resource}
use Rattle.sts_budget.specs.declared.change.Resource.TheVariants as resource
use Rattle.sts_budget.specs.Change.{own_of, limit_of, depth_of}
use Rattle.sts_budget.specs.Flowing.{flows}
use Rattle.sts_budget.specs.Known.{NamesRight}
use Rattle.sts_budget.specs.Layout.{EntryNames}
use Rattle.look_refusal.specs.declared.heavy.Heavy.{Heavy}
use Rattle.look_refusal.specs.Adding.{Adds, Steps, share, total}
use Rattle.look_refusal.specs.Trail.{greatest_number}

-- the count of the budget at a point of a control path: the steps of the whole path that ends
-- there, or the tasks, scopes or bindings that count there
abbrev pub Counts : Resource → List Budgets → Skeleton → ℕ → ℕ → List OpenEntry → ℕ → Type 0
Counts resource.Steps earlier c pc before es m =
    (c.shape pc ≡ EndsPath) × (before + c.weight pc ≡ m)
Counts resource.Tasks earlier c pc before es m = tasks_sum earlier es ≡ m
Counts resource.Scopes earlier c pc before es m = scopes_sum earlier es ≡ m
Counts resource.Binds earlier c pc before es m = binds_sum earlier es ≡ m

-- some control path reaches this place, and the budget counts m there
abbrev pub Weighs : Resource → List Budgets → List Instr → ℕ → ℕ → Type 0
Weighs k earlier code pc m =
    (loops : Loops)
    × ((before : ℕ)
    × ((es : List OpenEntry)
    × (Comes (skeleton earlier code) pc loops before es
    × Counts k earlier (skeleton earlier code) pc before es m)))

-- at every point of every control path the budget counts at most `most`
abbrev pub NoneHeavier : Resource → List Budgets → List Instr → ℕ → Type 0
NoneHeavier k earlier code most = (pc m : ℕ) → Weighs k earlier code pc m → m ≤ most

-- Some control path of the function reaches the reported place. The budget counts the reported
-- weight there. It is over the limit, and no other point has a higher count. The share of each
-- place is what the steps of the path at that place add; the function's own part comes on top.
pub record IsHeavy (p : Program) (f : ℕ) (k : Resource) (h : Heavy) : Type 0 where
  pub earlier : List Budgets
  pub long : length earlier ≡ f
  pub right : AreBudgets p earlier
  pub names_at : ℕ → EntryNames
  pub named : NamesRight p f names_at
  pub loops : Loops
  pub steps : Steps
  pub path : Adds (skeleton earlier (routine p f).code)
      (flows k earlier (routine p f).code names_at)
      (depth_of k (names_at h.place)) h.place loops steps
  pub one_each : length h.shares.items ≡ length (routine p f).code
  pub few : length h.shares.items ≤ MAX_INSTRUCTIONS
  pub shares : (x : ℕ) → get_or h.shares.items x 0 ≡ share steps x
  pub weight : h.weight ≡ own_of k + total steps
  pub weighs : Weighs k earlier (routine p f).code h.place h.weight
  pub most : NoneHeavier k earlier (routine p f).code h.weight
  pub over : limit_of k < h.weight

-- the count at some point of a path needs more than 128 bits
abbrev pub IsTooHeavy : Resource → List Budgets → List Instr → Type 0
IsTooHeavy k earlier code =
    (pc : ℕ) × ((m : ℕ) × (Weighs k earlier code pc m × (greatest_number < m)))

-- no count is over the limit, or some count needs more than 128 bits
pub record IsUntold (p : Program) (f : ℕ) (k : Resource) : Type 0 where
  pub earlier : List Budgets
  pub long : length earlier ≡ f
  pub right : AreBudgets p earlier
  pub why : NoneHeavier k earlier (routine p f).code (limit_of k)
      ⊎ IsTooHeavy k earlier (routine p f).code

-- something weighs more than 128 bits hold
pub record NeedsMoreBits (p : Program) (f : ℕ) (k : Resource) : Type 0 where
  pub earlier : List Budgets
  pub long : length earlier ≡ f
  pub right : AreBudgets p earlier
  pub more : IsTooHeavy k earlier (routine p f).code
