-- Facts that no event undoes: laws between a state of a run and any later one.
-- One restates "Cancellation" of `StructuredTaskScope`: nothing is started in a cancelled scope.
-- The rest is this project's own.
use Rattle.std.specs.Prelude.{◌≡◌, ℕ, ◌+◌, ◌<◌, ◌≤◌, List, [], ◌∷◌, ◌++◌, length, true, false, Some}
use Rattle.std.specs.Prelude.{◌&&◌}
use Rattle.sts_code.specs.Program.{Program}
use Rattle.sts_model.specs.declared.event.Event.{Event}
use Rattle.sts_model.specs.declared.event.End.{End}
use Rattle.sts_model.specs.declared.event.Fault.{Fault}
use Rattle.sts_model.specs.World.{World, Faulted, task_at, scope_at}
use Rattle.laws_runs.specs.Runs.{Always}
use Rattle.laws_runs.specs.Later.{IsSameTask, IsSameScope, KeepsMarks, MovesOn, Completes}
use Rattle.laws_runs.specs.Later.{NothingStarts}
use Rattle.sts_model.specs.Living.{sub_state}
use Rattle.sts_model.specs.Waiting.{can_step}
use Rattle.sts_model.specs.Run.{after, counts, is_step, taken}

-- a fault stays
abbrev pub FaultsStay : Type 0
FaultsStay =
    (p : Program) (before later : List Event) (kind : Fault) (t f pc : ℕ)
    → after p before ≡ Faulted kind t f pc → after p (before ++ later) ≡ Faulted kind t f pc

-- ---- two states of a run

-- the numbers of tasks and scopes never fall, and each birth number keeps its task or scope
pub record KeepsBorn (w v : World) : Type 0 where
  pub tasks : length w.tasks ≤ length v.tasks
  pub scopes : length w.scopes ≤ length v.scopes
  pub task : (t : ℕ) → t < length w.tasks → IsSameTask (task_at w t) (task_at v t)
  pub scope : (s : ℕ) → s < length w.scopes → IsSameScope (scope_at w s) (scope_at v s)

abbrev pub NothingIsLost : Type 0
NothingIsLost = Always (λ p w v. KeepsBorn w v)

-- a task that has ended keeps its end, and can't step
pub record KeepsEnd (p : Program) (w v : World) (t : ℕ) (end : End) : Type 0 where
  pub outcome : (task_at v t).outcome ≡ Some end
  pub stands_still : can_step p v t ≡ false

abbrev pub EndsStay : Type 0
EndsStay =
    Always (λ p w v. (t : ℕ) (end : End) → (task_at w t).outcome ≡ Some end → KeepsEnd p w v t end)

-- a scope that was born keeps its marks: once it is closed, cancelled or expired, it remains so
-- (before its birth it reads as closed)
abbrev pub ClosedStays : Type 0
ClosedStays =
    Always (λ p w v. (s : ℕ) → s < length w.scopes → KeepsMarks (scope_at w s) (scope_at v s))

-- a scope that was born never goes back to an earlier phase; once `join` had an outcome or the
-- close has begun, it can't expire any more
abbrev pub PhasesGoForward : Type 0
PhasesGoForward =
    Always (λ p w v. (s : ℕ) → s < length w.scopes → MovesOn (scope_at w s) (scope_at v s))

-- completions only grow, and those of a cancelled scope don't change any more
abbrev pub CompletionsGrow : Type 0
CompletionsGrow = Always (λ p w v. (s : ℕ) → Completes (scope_at w s) (scope_at v s))

-- the state of a subtask never changes once it is a success or failed
abbrev pub StatesStay : Type 0
StatesStay =
    Always (λ p w v. (t : ℕ) (end : End) → sub_state w t ≡ Some end → sub_state v t ≡ Some end)

-- no task that is born into a cancelled scope is ever started
abbrev pub CancelledStartsNothing : Type 0
CancelledStartsNothing = Always (λ p w v. NothingStarts w v)

-- ---- steps taken

-- one event more adds one step if it is a step that counts, and otherwise none
pub record Counts (p : Program) (events : List Event) (e : Event) : Type 0 where
  pub never_less : taken p events ≤ taken p (events ++ e ∷ [])
  pub at_most_one : taken p (events ++ e ∷ []) ≤ taken p events + 1
  pub counted : is_step e && counts p (after p events) e ≡ true
      → taken p (events ++ e ∷ []) ≡ taken p events + 1
  pub not_counted : is_step e && counts p (after p events) e ≡ false
      → taken p (events ++ e ∷ []) ≡ taken p events

abbrev pub StepsAreCounted : Type 0
StepsAreCounted = (p : Program) (events : List Event) (e : Event) → Counts p events e
