-- The costs of a run of a program with budgets (this project's own). Its steps stay within the
-- budgets of `main`, and so do the tasks, scopes and bindings that count in any state. The rest of
-- each budget is what the tasks that count may still use.
use Rattle.std.specs.Prelude.{◌≡◌, ℕ, ◌+◌, ◌-◌, ◌<◌, ◌≤◌, List, length, take, sum_by, true}
use Rattle.std.specs.Prelude.{false, Some, None, if◌then◌else◌}
use Rattle.sts_code.specs.Checks.{program_fault}
use Rattle.sts_code.specs.Program.{Program}
use Rattle.sts_code.specs.declared.instr.Instr.{Instr}
use Rattle.sts_code.specs.declared.instr.Instr.TheVariants.{Open, Fork, Bind}
use Rattle.sts_code.specs.declared.limits.TheConstants.{MAX_STANDING, MAX_STEPS}
use Rattle.sts_rules.specs.declared.budget.Budgets.{Budgets}
use Rattle.sts_model.specs.declared.event.Event.{Event}
use Rattle.sts_model.specs.declared.event.Stand.{Stand}
use Rattle.sts_model.specs.declared.event.Stand.TheVariants.{AtClose}
use Rattle.sts_model.specs.declared.record.Entry.{Entry}
use Rattle.sts_model.specs.declared.record.Entry.TheVariants as entry
use Rattle.sts_model.specs.declared.record.Frame.{Frame}
use Rattle.sts_model.specs.declared.record.Slot.TheVariants.{Own}
use Rattle.sts_model.specs.declared.record.Task.{Task}
use Rattle.sts_model.specs.World.{World, task_at, instr_at}
use Rattle.sts_rules.specs.Budget.{AreBudgets, budget_at, steps_of}
use Rattle.sts_rules.specs.Refusal.{IsWellTyped, IsAccepted}
use Rattle.sts_model.specs.Living.{lives, is_subtask}
use Rattle.sts_model.specs.Misuse.{slot, is_crowded}
use Rattle.sts_model.specs.Standing.{is_standing_task, standing_tasks, standing_scopes}
use Rattle.sts_model.specs.Standing.{standing_bindings}
use Rattle.sts_model.specs.Waiting.{stand_at}
use Rattle.sts_model.specs.Run.{after, taken}
use Rattle.laws_runs.specs.Runs.{In}

-- a program that passed its checks, with the budgets of its functions
pub record HasBudgets (p : Program) (budgets : List Budgets) : Type 0 where
  pub checked : program_fault p.routines ≡ None
  pub all : length budgets ≡ length p.routines
  pub right : AreBudgets p budgets

-- in every state of every run of such a program
abbrev pub Costs : (Program → List Budgets → List Event → World → Type 0) → Type 0
Costs P =
    (p : Program) (budgets : List Budgets) → HasBudgets p budgets
    → (events : List Event) → In (P p budgets events) (after p events)

-- all functions are well typed; if one isn't, a path may end without a `ret` or `fail`, and then no
-- budget counts its steps
abbrev pub AreTyped : Program → Type 0
AreTyped p = (f : ℕ) → f < length p.routines → IsWellTyped p f

-- like `Costs`, for a program that is well typed
abbrev pub TypedCosts : (Program → List Budgets → List Event → World → Type 0) → Type 0
TypedCosts P =
    (p : Program) (budgets : List Budgets) → HasBudgets p budgets → AreTyped p
    → (events : List Event) → In (P p budgets events) (after p events)

-- the budgets of `main`, the last function
abbrev pub main_budget : Program → List Budgets → Budgets
main_budget p budgets = budget_at budgets (length p.routines - 1)

-- ---- steps

-- the steps taken are never more than the budget of `main`
abbrev pub StepsAreWithin : Type 0
StepsAreWithin = TypedCosts (λ p budgets events w. taken p events ≤ (main_budget p budgets).steps)

-- the number of steps that a task has taken of its next instruction: a close that waits has taken
-- one of its two
abbrev pub steps_begun : Stand → ℕ
steps_begun (AtClose s) = 1
steps_begun _ = 0

-- enough steps are left for the next instruction of a living task, less those that it has begun
abbrev pub LeavesSteps : Program → List Budgets → List Event → World → Type 0
LeavesSteps p budgets events w =
    (t : ℕ) (i : Instr) → lives (task_at w t) ≡ true → instr_at p (task_at w t).frame ≡ Some i
    → taken p events + steps_of (take (task_at w t).frame.function budgets) i
    ≤ (main_budget p budgets).steps + steps_begun (stand_at p w t)

abbrev pub StepsAreLeft : Type 0
StepsAreLeft = TypedCosts LeavesSteps

-- so a step is left to each living task that is at an instruction
abbrev pub LeavesAStep : Program → Budgets → List Event → World → Type 0
LeavesAStep p b events w =
    (t : ℕ) (i : Instr) → lives (task_at w t) ≡ true → instr_at p (task_at w t).frame ≡ Some i
    → taken p events < b.steps

abbrev pub AStepIsLeft : Type 0
AStepIsLeft = TypedCosts (λ p budgets events w. LeavesAStep p (main_budget p budgets) events w)

-- ---- what stands

-- the tasks that count are never more than the budget of `main`; two definitions more say this for
-- scopes and for bindings
abbrev pub TasksAreWithin : Type 0
TasksAreWithin = Costs (λ p budgets events w. standing_tasks w ≤ (main_budget p budgets).tasks)

abbrev pub ScopesAreWithin : Type 0
ScopesAreWithin = Costs (λ p budgets events w. standing_scopes w ≤ (main_budget p budgets).scopes)

abbrev pub BindsAreWithin : Type 0
BindsAreWithin = Costs (λ p budgets events w. standing_bindings w ≤ (main_budget p budgets).binds)

-- one of the three budgets other than steps: how much a task, an open scope and an open binding
-- count in it, and which part of the budgets it is
pub record Peak : Type 0 where
  pub task : ℕ
  pub scope : ℕ
  pub binding : ℕ
  pub part : Budgets → ℕ

abbrev pub tasks_peak : Peak
tasks_peak = record { task = 1; scope = 0; binding = 0; part = λ b. b.tasks }

abbrev pub scopes_peak : Peak
scopes_peak = record { task = 0; scope = 1; binding = 0; part = λ b. b.scopes }

abbrev pub binds_peak : Peak
binds_peak = record { task = 0; scope = 0; binding = 1; part = λ b. b.binds }

-- a task's share: the budget of its function
abbrev pub share : Peak → List Budgets → Task → ℕ
share k budgets task = k.part (budget_at budgets task.frame.function)

-- a task's share if it is a subtask of the scope s, and otherwise 0
abbrev pub share_in : Peak → List Budgets → ℕ → Task → ℕ
share_in k budgets s task = if is_subtask s task then share k budgets task else 0

-- the shares of the subtasks of a scope
abbrev pub subtask_shares : Peak → List Budgets → List Task → ℕ → ℕ
subtask_shares k budgets tasks s = sum_by (share_in k budgets s) tasks

-- the part of its task's share that an entry of a structure list uses
abbrev pub entry_use : Peak → List Budgets → List Task → Entry → ℕ
entry_use k budgets tasks (entry.Scope s) = k.scope + subtask_shares k budgets tasks s
entry_use k budgets tasks (entry.Binding key value) = k.binding

-- what a task uses of its share
abbrev pub use_of : Peak → List Budgets → List Task → Task → ℕ
use_of k budgets tasks task = k.task + sum_by (entry_use k budgets tasks) task.frame.entries

-- the part of its share that a task doesn't use; 0 if the task doesn't count
abbrev pub slack : Peak → List Budgets → World → Task → ℕ
slack k budgets w task =
    if is_standing_task w task then share k budgets task - use_of k budgets w.tasks task else 0

-- the room that is left
abbrev pub room : Peak → List Budgets → World → ℕ
room k budgets w = sum_by (slack k budgets w) w.tasks

-- the numbers that count and the room that is left add up to the budgets of `main`
pub record RoomAddsUp (p : Program) (budgets : List Budgets) (w : World) : Type 0 where
  pub tasks : standing_tasks w + room tasks_peak budgets w ≡ (main_budget p budgets).tasks
  pub scopes : standing_scopes w + room scopes_peak budgets w ≡ (main_budget p budgets).scopes
  pub binds : standing_bindings w + room binds_peak budgets w ≡ (main_budget p budgets).binds

abbrev pub RoomIsSlack : Type 0
RoomIsSlack = Costs (λ p budgets events w. RoomAddsUp p budgets w)

-- the budgets leave room for one more scope, binding or task, if the instruction makes one. A fork
-- must be in a scope of its own
abbrev pub HasRoomBeside : Budgets → (tasks scopes binds : ℕ) → Frame → Instr → Type 0
HasRoomBeside b tasks scopes binds f (Open x timed joiner) = scopes < b.scopes
HasRoomBeside b tasks scopes binds f (Bind key) = binds < b.binds
HasRoomBeside b tasks scopes binds f (Fork x g h) = (s : ℕ) → slot f x ≡ Own s → tasks < b.tasks
HasRoomBeside b tasks scopes binds f _ = Unit {0}

abbrev pub HasRoomFor : Budgets → World → Frame → Instr → Type 0
HasRoomFor b w f i =
    HasRoomBeside b (standing_tasks w) (standing_scopes w) (standing_bindings w) f i

-- there is room for the next instruction of each living task
abbrev pub HasRoom : Program → Budgets → World → Type 0
HasRoom p b w =
    (t : ℕ) (i : Instr) → lives (task_at w t) ≡ true → instr_at p (task_at w t).frame ≡ Some i
    → HasRoomFor b w (task_at w t).frame i

abbrev pub RoomIsLeft : Type 0
RoomIsLeft = Costs (λ p budgets events w. HasRoom p (main_budget p budgets) w)

-- ---- births

-- each scope was born by a step, and so was each task except the root; this holds for every program
abbrev pub BirthsAreSteps : Type 0
BirthsAreSteps =
    (p : Program) (events : List Event)
    → In (λ w. length w.tasks + length w.scopes ≤ taken p events + 1) (after p events)

-- ---- programs that are accepted

-- in every state of every run of an accepted program
abbrev pub Accepted : (Program → List Event → World → Type 0) → Type 0
Accepted P =
    (p : Program) → program_fault p.routines ≡ None → IsAccepted p
    → (events : List Event) → In (P p events) (after p events)

-- no limit is passed
pub record IsModest (p : Program) (events : List Event) (w : World) : Type 0 where
  pub steps : taken p events ≤ MAX_STEPS
  pub tasks : standing_tasks w ≤ MAX_STANDING
  pub scopes : standing_scopes w ≤ MAX_STANDING
  pub binds : standing_bindings w ≤ MAX_STANDING

abbrev pub AcceptedIsModest : Type 0
AcceptedIsModest = Accepted IsModest

-- the limits leave room, to count and to be born, for the scope or the task that this instruction
-- makes; a fork must be in a scope of its own
abbrev pub HasPlaceFor : World → Frame → Instr → Type 0
HasPlaceFor w f (Open x timed joiner) =
    is_crowded (standing_scopes w) (length w.scopes) ≡ false
HasPlaceFor w f (Fork x g h) =
    (s : ℕ) → slot f x ≡ Own s → is_crowded (standing_tasks w) (length w.tasks) ≡ false
HasPlaceFor w f _ = Unit {0}

-- the limits leave room for the next instruction of each living task
abbrev pub HasPlace : Program → World → Type 0
HasPlace p w =
    (t : ℕ) (i : Instr) → lives (task_at w t) ≡ true → instr_at p (task_at w t).frame ≡ Some i
    → HasPlaceFor w (task_at w t).frame i

abbrev pub AcceptedHasPlace : Type 0
AcceptedHasPlace = Accepted (λ p events w. HasPlace p w)

-- ---- programs that are not well typed

-- the steps of a program that isn't well typed may be more than its budget
abbrev pub StepsNeedTypes : Type 0
StepsNeedTypes = ¬ Costs (λ p budgets events w. taken p events ≤ (main_budget p budgets).steps)
