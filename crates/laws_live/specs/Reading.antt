-- Readings and changes of a live view (this project's own).
use Rattle.std.specs.Prelude.{ℕ, [], Bool, false, Option, Some, None, option_map, is_some}
use Rattle.std.specs.Prelude.{unwrap_or, ◌&&◌, slice_index_or, slice_set, length}
use Rattle.std.specs.List.{list_any}
use Rattle.sts_model.specs.declared.event.Phase.{Phase}
use Rattle.sts_model.specs.declared.record.Frame.{Frame}
use Rattle.sts_model.specs.World.{no_task, no_scope}
use Rattle.sts_model.specs.Living.{is_in}
use Rattle.sts_model.specs.Live.{Live, LiveTask, LiveScope, Alive, shown_scope, subtasks_in}

-- ---- tasks and scopes

-- the task or the scope of this birth number, if it is in the view
abbrev pub task_in : Live → ℕ → Option LiveTask
task_in v t = slice_index_or v.tasks t None

abbrev pub scope_in : Live → ℕ → Option LiveScope
scope_in v s = slice_index_or v.scopes s None

-- the values that are read if there is no such task, scope or living task
abbrev pub no_live_task : LiveTask
no_live_task = record { scope = None; state = None; alive = None }

abbrev pub no_live_scope : LiveScope
no_live_scope = shown_scope no_scope

abbrev pub no_alive : Alive
no_alive = record { frame = no_task.frame; flag = false; environment = [] }

-- the task or the scope of this birth number, and the task's own state if it lives
abbrev pub live_task_at : Live → ℕ → LiveTask
live_task_at v t = unwrap_or (task_in v t) no_live_task

abbrev pub live_scope_at : Live → ℕ → LiveScope
live_scope_at v s = unwrap_or (scope_in v s) no_live_scope

abbrev pub alive_at : Live → ℕ → Alive
alive_at v t = unwrap_or (live_task_at v t).alive no_alive

abbrev pub lives_in : Live → ℕ → Bool
lives_in v t = is_some (live_task_at v t).alive

-- ---- changes

-- the view with a change of one task, of one living task's own state, of one frame, of one scope
abbrev pub with_live_task : Live → ℕ → (LiveTask → LiveTask) → Live
with_live_task v t change =
    record v { tasks = slice_set v.tasks t (option_map change (task_in v t)) }

abbrev pub with_alive : Live → ℕ → (Alive → Alive) → Live
with_alive v t change =
    with_live_task v t (λ task. record task { alive = option_map change task.alive })

abbrev pub with_live_frame : Live → ℕ → Frame → Live
with_live_frame v t f = with_alive v t (λ alive. record alive { frame = f })

abbrev pub with_live_scope : Live → ℕ → (LiveScope → LiveScope) → Live
with_live_scope v s change =
    record v { scopes = slice_set v.scopes s (option_map change (scope_in v s)) }

abbrev pub with_live_phase : Live → ℕ → Phase → Live
with_live_phase v s phase = with_live_scope v s (λ scope. record scope { phase = phase })

-- ---- subtasks

-- the number of subtasks of s, with those that never ran
abbrev pub live_count : Live → ℕ → ℕ
live_count v s = length (subtasks_in v s)

abbrev pub is_live_living : ℕ → Option LiveTask → Bool
is_live_living s None = false
is_live_living s (Some task) = is_in s task.scope && is_some task.alive

-- does a subtask of s live?
abbrev pub live_any_lives : Live → ℕ → Bool
live_any_lives v s = list_any (is_live_living s) v.tasks
