-- How instructions change the sums over the open entries, the outermost first. The budgets are
-- found from these sums (this project's own).
use Rattle.std.specs.Prelude.{ℕ, ◌<◌, List, [], ◌∷◌, length, min, nat_lt, ◌==◌, if◌then◌else◌, Some}
use Rattle.std.specs.Prelude.{None}
use Rattle.sts_code.specs.declared.instr.Instr.{Instr}
use Rattle.sts_code.specs.declared.limits.TheConstants.{MAX_STANDING, MAX_STEPS}
use Rattle.sts_code.specs.declared.instr.Instr.TheVariants.{Open, Fork, Bind}
use Rattle.sts_rules.specs.declared.typing.Cause.{Cause}
use Rattle.sts_rules.specs.declared.typing.Cause.TheVariants.{TooManySteps, TooManyTasks}
use Rattle.sts_rules.specs.declared.typing.Cause.TheVariants.{TooManyScopes, TooManyBinds}
use Rattle.sts_rules.specs.ControlPaths.{IsGreatest, IsPeak}
use Rattle.sts_rules.specs.declared.budget.Budgets.{Budgets}
use Rattle.sts_rules.specs.Budget.{Measure, steps_of, skeleton, tasks_sum, scopes_sum, binds_sum}
use Rattle.sts_rules.specs.Budget.{tasks_measure, scopes_measure, binds_measure}
use Rattle.sts_budget.specs.declared.change.Resource.{Resource}
use Rattle.sts_budget.specs.declared.change.Resource.TheVariants.{Steps, Tasks, Scopes, Binds}
use Rattle.sts_budget.specs.declared.change.SumChange.{SumChange}
use Rattle.sts_budget.specs.declared.change.SumChange.TheVariants.{Rises, Opens, Adds}
use Rattle.sts_budget.specs.Layout.{EntryNames}

-- the number of entries that the sum over the first d depends on; n entries are open before the
-- instruction
abbrev pub source_of : SumChange → ℕ → ℕ → ℕ
source_of (Opens own) n d = min d n
source_of _ n d = d

-- the amount that the instruction adds to the sum over the first d entries
abbrev pub added_of : SumChange → ℕ → ℕ → ℕ
added_of (Rises amount) n d = amount
added_of (Opens own) n d = if nat_lt n d then own else 0
added_of (Adds position amount) n d = if nat_lt position d then amount else 0

-- the position from the outermost of the innermost scope in this slot
abbrev pub position_of : ℕ → EntryNames → ℕ
position_of slot [] = 0
position_of slot (None ∷ ns) = position_of slot ns
position_of slot (Some s ∷ ns) = if s == slot then length ns else position_of slot ns

abbrev pub measured : Measure → Instr → EntryNames → SumChange
measured m (Open slot timed joiner) ns = Opens m.scope
measured m (Bind key) ns = Opens m.binding
measured m (Fork slot function handle) ns = Adds (position_of slot ns) (m.subtask function)
measured m _ ns = Rises 0

-- a fork is of an earlier function
abbrev pub ForksEarlier : ℕ → Instr → Type 0
ForksEarlier n (Fork slot function handle) = function < n
ForksEarlier n _ = Unit {0}

-- what is summed for a resource
abbrev pub measure_of : Resource → List Budgets → Measure
measure_of Steps earlier = record { scope = 0; binding = 0; subtask = λ f. 0 }
measure_of Tasks earlier = tasks_measure earlier
measure_of Scopes earlier = scopes_measure earlier
measure_of Binds earlier = binds_measure earlier

-- steps are summed over no entry
abbrev pub change_of : Resource → List Budgets → Instr → EntryNames → SumChange
change_of Steps earlier i ns = Rises (steps_of earlier i)
change_of k earlier i ns = measured (measure_of k earlier) i ns

abbrev pub depth_of : Resource → EntryNames → ℕ
depth_of Steps ns = 0
depth_of _ ns = length ns

-- The terms of a budget: the function's own part, outside the sums; the limit; and the cause if the
-- budget is over it. The own part is the last step of a path, or the task itself.
pub record Terms : Type 0 where
  pub own : ℕ
  pub limit : ℕ
  pub cause : Cause

abbrev pub terms : Resource → Terms
terms Steps = record { own = 1; limit = MAX_STEPS; cause = TooManySteps }
terms Tasks = record { own = 1; limit = MAX_STANDING; cause = TooManyTasks }
terms Scopes = record { own = 0; limit = MAX_STANDING; cause = TooManyScopes }
terms Binds = record { own = 0; limit = MAX_STANDING; cause = TooManyBinds }

abbrev pub own_of : Resource → ℕ
own_of k = (terms k).own

abbrev pub limit_of : Resource → ℕ
limit_of k = (terms k).limit

abbrev pub cause_of : Resource → Cause
cause_of k = (terms k).cause

-- m is the budget of this resource
abbrev pub IsMost : Resource → List Budgets → List Instr → ℕ → Type 0
IsMost Steps earlier code m = IsGreatest (skeleton earlier code) m
IsMost Tasks earlier code m = IsPeak (skeleton earlier code) (tasks_sum earlier) m
IsMost Scopes earlier code m = IsPeak (skeleton earlier code) (scopes_sum earlier) m
IsMost Binds earlier code m = IsPeak (skeleton earlier code) (binds_sum earlier) m

-- what a `times` or a `next` counts
abbrev pub own_step : Resource → ℕ
own_step Steps = 1
own_step _ = 0
