-- The four budgets of a function: the steps of its control paths, and the most tasks, scopes and
-- bindings that count at one point of a path (this project's own).
use Rattle.std.specs.Prelude.{ℕ, ◌+◌, ◌<◌, List, [], ◌∷◌, ◌++◌, length, take, drop, sum_by}
use Rattle.std.specs.Prelude.{if◌then◌else◌, ◌==◌, unwrap_or, slice_index_or}
use Rattle.sts_code.specs.declared.instr.Instr.{Instr}
use Rattle.sts_code.specs.declared.limits.TheConstants.{MAX_STANDING, MAX_STEPS}
use Rattle.sts_code.specs.declared.instr.Instr.TheVariants.{Times, Next, Open, Fork, Close, Bind}
use Rattle.sts_code.specs.declared.instr.Instr.TheVariants.{Unbind, Ret, Fail}
use Rattle.sts_code.specs.Program.{Program, routine, instr_at}
use Rattle.sts_rules.specs.declared.typing.Cause.{Cause}
use Rattle.sts_rules.specs.declared.typing.Cause.TheVariants.{TooManySteps, TooManyTasks}
use Rattle.sts_rules.specs.declared.typing.Cause.TheVariants.{TooManyScopes, TooManyBinds}
use Rattle.sts_rules.specs.declared.budget.Budgets.{Budgets}
use Rattle.sts_rules.specs.Causes.{cause_number}
use Rattle.sts_code.specs.Loops.{match_of}
use Rattle.sts_rules.specs.Around.{next_place}
use Rattle.sts_code.specs.Facts.{targets}
use Rattle.sts_rules.specs.ControlPaths.{Shape, GoesTo, Repeats, EndsTurn, EndsPath, OpenEntry}
use Rattle.sts_rules.specs.ControlPaths.{OpenScope, OpenBinding, Skeleton, IsGreatest, IsPeak}
use Rattle.sts_rules.specs.ControlPaths.{PathCounts, PointHolds}

-- the budgets that are read if there is no such function
abbrev pub no_budget : Budgets
no_budget = record { steps = 0; tasks = 0; scopes = 0; binds = 0 }

-- the budgets of an earlier function
abbrev pub budget_at : List Budgets → ℕ → Budgets
budget_at earlier f = slice_index_or earlier f no_budget

-- ---- one instruction

-- how the instruction at pc goes on
abbrev pub shape_of : ℕ → Instr → Shape
shape_of pc (Times n) = Repeats n
shape_of pc Next = EndsTurn
shape_of pc Ret = EndsPath
shape_of pc Fail = EndsPath
shape_of pc i = GoesTo (targets i ++ next_place pc i)

-- the steps that an instruction counts: two for a close, and for a fork also those of its child
abbrev pub steps_of : List Budgets → Instr → ℕ
steps_of earlier (Close slot) = 2
steps_of earlier (Fork slot function handle) = 1 + (budget_at earlier function).steps
steps_of earlier _ = 1

-- a subtask was forked in the innermost scope of this slot
abbrev pub forked : ℕ → ℕ → List OpenEntry → List OpenEntry
forked slot function [] = []
forked slot function (OpenBinding ∷ es) = OpenBinding ∷ forked slot function es
forked slot function (OpenScope s subtasks ∷ es) =
    if s == slot
    then OpenScope s (function ∷ subtasks) ∷ es
    else OpenScope s subtasks ∷ forked slot function es

-- the open entries after an instruction, the innermost first
abbrev pub entries_of : Instr → List OpenEntry → List OpenEntry
entries_of (Open slot timed joiner) es = OpenScope slot [] ∷ es
entries_of (Bind key) es = OpenBinding ∷ es
entries_of (Close slot) es = drop 1 es
entries_of Unbind es = drop 1 es
entries_of (Fork slot function handle) es = forked slot function es
entries_of _ es = es

-- what control paths see of this code, given the budgets of the earlier functions
abbrev pub skeleton : List Budgets → List Instr → Skeleton
skeleton earlier code = record {
  size = length code;
  shape = λ pc. shape_of pc (instr_at code pc);
  mate = λ pc. unwrap_or (match_of code pc) 0;
  weight = λ pc. steps_of earlier (instr_at code pc);
  entries = λ pc es. entries_of (instr_at code pc) es;
}

-- ---- what stands at a point

-- the parts of a sum: the amounts of an open scope, an open binding and a subtask
pub record Measure : Type 0 where
  pub scope : ℕ
  pub binding : ℕ
  pub subtask : ℕ → ℕ

abbrev pub entry_sum : Measure → OpenEntry → ℕ
entry_sum k (OpenScope slot subtasks) = k.scope + sum_by k.subtask subtasks
entry_sum k OpenBinding = k.binding

abbrev pub entries_sum : Measure → List OpenEntry → ℕ
entries_sum k es = sum_by (entry_sum k) es

abbrev pub tasks_measure : List Budgets → Measure
tasks_measure earlier =
    record { scope = 0; binding = 0; subtask = λ f. (budget_at earlier f).tasks }

abbrev pub scopes_measure : List Budgets → Measure
scopes_measure earlier =
    record { scope = 1; binding = 0; subtask = λ f. (budget_at earlier f).scopes }

abbrev pub binds_measure : List Budgets → Measure
binds_measure earlier =
    record { scope = 0; binding = 1; subtask = λ f. (budget_at earlier f).binds }

-- the task itself, and the tasks of the subtasks in open scopes
abbrev pub tasks_sum : List Budgets → List OpenEntry → ℕ
tasks_sum earlier es = 1 + entries_sum (tasks_measure earlier) es

-- the open scopes, and those of the subtasks in them
abbrev pub scopes_sum : List Budgets → List OpenEntry → ℕ
scopes_sum earlier es = entries_sum (scopes_measure earlier) es

-- the open bindings, and those of the subtasks in open scopes
abbrev pub binds_sum : List Budgets → List OpenEntry → ℕ
binds_sum earlier es = entries_sum (binds_measure earlier) es

-- ---- the budgets

-- these are the budgets of this code, given those of the earlier functions
pub record IsBudget (earlier : List Budgets) (code : List Instr) (b : Budgets) : Type 0 where
  pub steps : IsGreatest (skeleton earlier code) b.steps
  pub tasks : IsPeak (skeleton earlier code) (tasks_sum earlier) b.tasks
  pub scopes : IsPeak (skeleton earlier code) (scopes_sum earlier) b.scopes
  pub binds : IsPeak (skeleton earlier code) (binds_sum earlier) b.binds

-- these are the budgets of the first functions of the program, in order
abbrev pub AreBudgets : Program → List Budgets → Type 0
AreBudgets p budgets =
    (f : ℕ) → f < length budgets
    → IsBudget (take f budgets) (routine p f).code (budget_at budgets f)

-- more than the limit: on some control path, or at some point of one
abbrev pub PathExceeds : Skeleton → ℕ → Type 0
PathExceeds c limit = (m : ℕ) × (PathCounts c m × (limit < m))

abbrev pub PointExceeds : Skeleton → (List OpenEntry → ℕ) → ℕ → Type 0
PointExceeds c sum limit = (m : ℕ) × (PointHolds c sum m × (limit < m))

-- the cause of a budget that is over its limit, V17 to V20
abbrev pub Exceeds : List Budgets → List Instr → Cause → Type 0
Exceeds earlier code TooManySteps = PathExceeds (skeleton earlier code) MAX_STEPS
Exceeds earlier code TooManyTasks =
    PointExceeds (skeleton earlier code) (tasks_sum earlier) MAX_STANDING
Exceeds earlier code TooManyScopes =
    PointExceeds (skeleton earlier code) (scopes_sum earlier) MAX_STANDING
Exceeds earlier code TooManyBinds =
    PointExceeds (skeleton earlier code) (binds_sum earlier) MAX_STANDING
Exceeds earlier code _ = ⊥

-- the least of these causes
abbrev pub IsLeastExcess : List Budgets → List Instr → Cause → Type 0
IsLeastExcess earlier code c =
    Exceeds earlier code c
    × ((other : Cause) → cause_number other < cause_number c → ¬ Exceeds earlier code other)
