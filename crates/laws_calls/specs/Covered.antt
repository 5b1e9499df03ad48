-- The laws on what a table covers of a run (this project's own). Each is for every program.
use Rattle.std.specs.Prelude.{◌≡◌, ℕ, ◌+◌, ◌≤◌, List, length, true, Some}
use Rattle.sts_code.specs.Program.{Program}
use Rattle.sts_model.specs.declared.event.End.{End}
use Rattle.sts_model.specs.declared.event.Event.{Event}
use Rattle.sts_model.specs.Living.{lives}
use Rattle.sts_model.specs.World.{World, task_at}
use Rattle.sts_model.specs.Run.{after}
use Rattle.laws_runs.specs.Runs.{Each, In}
use Rattle.laws_calls.specs.Outside.{Outside, may_flag}
use Rattle.laws_calls.specs.Tasks.{Among, HasWay, Own}
use Rattle.laws_calls.specs.Steps.{Row, Table, IsTable}
use Rattle.laws_calls.specs.Covers.{Covers, TaskFits, AreWithin, is_interrupt}

-- what a table covers before an event it covers after it, if it allows the event
abbrev pub EventsAreCovered : Type 0
EventsAreCovered =
    Each (λ p w e v. (outside : Outside) (t : Table) (root : Row) → IsTable p outside t root
    → Covers p outside t root w → (is_interrupt e ≡ true → may_flag outside ≡ true)
    → Covers p outside t root v)

-- a table covers each state of a run that has no more interrupts than the table allows
abbrev pub RunsAreCovered : Type 0
RunsAreCovered =
    (p : Program) (outside : Outside) (t : Table) (root : Row) → IsTable p outside t root
    → (events : List Event) → AreWithin outside events
    → In (Covers p outside t root) (after p events)

-- so each end that the root task comes to in such a run is a way of the root's row
abbrev pub EndsAreWays : Type 0
EndsAreWays =
    (p : Program) (outside : Outside) (t : Table) (root : Row) → IsTable p outside t root
    → (events : List Event) → AreWithin outside events → (end : End)
    → In (λ w. (task_at w 0).outcome ≡ Some end → HasWay root.ways end) (after p events)

-- each living task is in a state of its row
pub record AllFit (outside : Outside) (t : Table) (w : World) : Type 0 where
  pub rows : ℕ → Row
  pub listed : (u : ℕ) → Among t (rows u)
  pub tasks : (u : ℕ) → lives (task_at w u) ≡ true → (own : Own) × TaskFits outside rows w u own

-- if a cancel may come, all tasks fit in each state of any run
abbrev pub TasksAreCovered : Type 0
TasksAreCovered =
    (p : Program) (outside : Outside) (t : Table) (root : Row) → IsTable p outside t root
    → outside.cancels ≡ true → (events : List Event) → In (AllFit outside t) (after p events)

-- and no more tasks and scopes are born than the root's row allows, apart from the root
abbrev pub BirthsAreBounded : Type 0
BirthsAreBounded =
    (p : Program) (outside : Outside) (t : Table) (root : Row) → IsTable p outside t root
    → outside.cancels ≡ true → (events : List Event)
    → In (λ w. length w.tasks + length w.scopes ≤ 1 + root.births) (after p events)
