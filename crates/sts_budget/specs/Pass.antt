-- The sums of one pass over a function, and its answer (this project's own).
use Rattle.std.specs.Prelude.{ℕ, ◌≤◌, ◌++◌, List, Option, MatchOption}
use Rattle.sts_code.specs.declared.instr.Instr.{Instr}
use Rattle.sts_code.specs.Facts.{targets}
use Rattle.sts_rules.specs.Around.{next_place}
use Rattle.sts_rules.specs.Budget.{skeleton, Exceeds}
use Rattle.sts_rules.specs.ControlPaths.{Skeleton}
use Rattle.sts_budget.specs.declared.pass.Pass.{Pass}
use Rattle.sts_budget.specs.Change.{cause_of, limit_of, depth_of, IsMost}
use Rattle.sts_budget.specs.Ready.{IsLaidFor, flows_in, names_in}
use Rattle.sts_budget.specs.Sums.{Flows}

-- the layout fits the code, given the budgets of the functions before
abbrev pub IsSet : Pass → Type 0
IsSet p = IsLaidFor p.earlier.now p.code.now p.layout.now

-- what control paths see of the code
abbrev pub paths : Pass → Skeleton
paths p = skeleton p.earlier.now p.code.now

-- how the sums flow
abbrev pub flow : Pass → Flows
flow p = flows_in p.resource p.earlier.now p.code.now p.layout.now

-- over how many entries the sums go at a place
abbrev pub low_at : Pass → ℕ → ℕ
low_at p pc = depth_of p.resource (names_in p.layout.now pc)

-- the places after an instruction that is neither `times` nor `next`
abbrev pub leads : ℕ → Instr → List ℕ
leads pc i = targets i ++ next_place pc i

-- the budget within its limit, or none if it is over
abbrev pub IsBudgetOr : Pass → Option ℕ → Type 0
IsBudgetOr p o =
    MatchOption o (Exceeds p.earlier.now p.code.now (cause_of p.resource))
    (λ m. IsMost p.resource p.earlier.now p.code.now m × (m ≤ limit_of p.resource))
