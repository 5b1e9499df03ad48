-- Every run of an accepted program, from the laws of every program and those of costs.
use Rattle.std.proofs.Common.{◌≡◌, ◌<◌, ◌≤◌, List, length, None}
use Rattle.sts_code.specs.Checks.{program_fault}
use Rattle.sts_code.specs.Program.{Program}
use Rattle.sts_rules.specs.declared.budget.Budgets.{Budgets}
use Rattle.sts_model.specs.declared.event.Event.{Event}
use Rattle.sts_model.specs.World.{World, State, Running, Faulted}
use Rattle.sts_model.specs.Standing.{standing_tasks, standing_scopes, standing_bindings}
use Rattle.sts_rules.specs.Refusal.{IsAccepted, IsBudgetOf}
use Rattle.sts_model.specs.Run.{after, taken}
use Rattle.laws_runs.specs.States.{ClosedIsEmpty, RootEndsLast, GoesOn, SomeTaskSteps}
use Rattle.laws_runs.specs.Runs.{In, NeverFaults}
use Rattle.laws_accepted.specs.Costs.{main_budget, StepsAreWithin, AStepIsLeft, LeavesAStep, TasksAreWithin, ScopesAreWithin, BindsAreWithin}
use Rattle.laws_accepted.specs.Accepted as accepted
use Rattle.laws_accepted.specs.Accepted.{main_of, AllFine, LivingTasksAreFine, HasStepsLeft}
use Rattle.laws_accepted.specs.EveryRun.{RunsWell, ClosedAreEmpty, RootIsLast}
use Rattle.laws_accepted.proofs.Faults.{holds-in}
use Rattle.laws_accepted.proofs.Printed.{with_main, all_typed}

-- while a task lives a step is left
pub a_step_is_left : (p : Program) → program_fault p.routines ≡ None → 0 < length p.routines → IsAccepted p → LivingTasksAreFine p → AStepIsLeft → accepted.AStepIsLeft p
a_step_is_left p checked some ok fine law =
    with_main p checked some (HasStepsLeft p) (λ budgets has events. by (main_budget p budgets) events (after p events) (fine events) (law p budgets has (all_typed p ok) events))
  where
    by : (b : Budgets) (events : List Event) (x : State) → In (AllFine p) x → In (LeavesAStep p b events) x → In (HasStepsLeft p b events) x
    by b events (Running w) h left = λ t alive. left t (h t alive).instr alive (h t alive).at
    by b events (Faulted kind t f pc) h left = tt

-- the promises for every run, from the laws of runs and those of costs
pub runs_well : (p : Program) → program_fault p.routines ≡ None → 0 < length p.routines → IsAccepted p → NeverFaults p → ClosedIsEmpty → RootEndsLast → SomeTaskSteps → StepsAreWithin → TasksAreWithin → ScopesAreWithin → BindsAreWithin → (b : Budgets) → IsBudgetOf p (main_of p) b → (events : List Event) → RunsWell p b events
runs_well p checked some ok never closed root goes_on steps tasks scopes binds b is events =
    let run = never events in
    let w : World = run.0 in
    record {
      world = run.0;
      no_fault = run.1;
      closed = holds-in ClosedAreEmpty (after p events) run.0 run.1 (closed p events);
      root = holds-in RootIsLast (after p events) run.0 run.1 (root p events);
      goes_on = (holds-in (GoesOn p) (after p events) run.0 run.1 (goes_on p events)).some;
      steps = holds-in (λ v. taken p events ≤ b.steps) (after p events) run.0 run.1 (with_main p checked some (λ c es v. taken p es ≤ c.steps) (λ budgets has. steps p budgets has (all_typed p ok)) b is events);
      tasks = holds-in (λ v. standing_tasks v ≤ b.tasks) (after p events) run.0 run.1 (with_main p checked some (λ c es v. standing_tasks v ≤ c.tasks) (tasks p) b is events);
      scopes = holds-in (λ v. standing_scopes v ≤ b.scopes) (after p events) run.0 run.1 (with_main p checked some (λ c es v. standing_scopes v ≤ c.scopes) (scopes p) b is events);
      binds = holds-in (λ v. standing_bindings v ≤ b.binds) (after p events) run.0 run.1 (with_main p checked some (λ c es v. standing_bindings v ≤ c.binds) (binds p) b is events);
    }
