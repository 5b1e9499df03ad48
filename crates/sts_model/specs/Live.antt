-- The live view of a state that is no fault: everything that can still be asked of it. Tasks and
-- scopes are numbered by birth; a task or scope that no longer counts has a hole (this project's
-- own).
use Rattle.std.specs.Prelude.{ℕ, List, length, map, filter_map, Bool, Option, Some, None}
use Rattle.std.specs.Prelude.{option_map, if◌then◌else◌, slice_index_or}
use Rattle.std.specs.List.{range_with_len, enumerate_from}
use Rattle.sts_code.specs.declared.instr.Joiner.{Joiner}
use Rattle.sts_model.specs.declared.event.End.{End}
use Rattle.sts_model.specs.declared.event.Phase.{Phase}
use Rattle.sts_model.specs.declared.event.Verdict.{Verdict}
use Rattle.sts_model.specs.declared.record.Frame.{Frame}
use Rattle.sts_model.specs.declared.record.Task.{Task}
use Rattle.sts_model.specs.declared.record.Scope.{Scope}
use Rattle.sts_model.specs.declared.record.Bound.{Bound}
use Rattle.sts_model.specs.World.{World, task_at, scope_at}
use Rattle.sts_model.specs.Living.{lives, is_in, sub_state, ends}
use Rattle.sts_model.specs.Environment.{environment_of}
use Rattle.sts_model.specs.Standing.{is_standing_task, is_standing_scope}
use Rattle.sts_model.specs.Told.{Told, told, result_told}

-- what a living task has
pub record Alive : Type 0 where
  pub frame : Frame
  pub flag : Bool
  pub environment : List Bound

-- a task that counts: its scope, its state as a subtask (none: unavailable), and, if it lives, its
-- own state
pub record LiveTask : Type 0 where
  pub scope : Option ℕ
  pub state : Option End
  pub alive : Option Alive

-- a scope that isn't closed, with the counters that its joiner needs
pub record LiveScope : Type 0 where
  pub owner : ℕ
  pub joiner : Joiner
  pub timed : Bool
  pub phase : Phase
  pub cancelled : Bool
  pub expired : Bool
  pub environment : List Bound
  pub told : Told

-- the tasks and scopes by birth number; each list is as long as the number of births
pub record Live : Type 0 where
  pub tasks : List (Option LiveTask)
  pub scopes : List (Option LiveScope)
  pub root_end : Option End

abbrev pub alive_of : World → Task → Option Alive
alive_of w task =
    if lives task
    then Some (record { frame = task.frame; flag = task.flag; environment = environment_of task w })
    else None

abbrev pub live_task : World → ℕ → Option LiveTask
live_task w t =
    let task = task_at w t in
    if is_standing_task w task
    then Some (record { scope = task.scope; state = sub_state w t; alive = alive_of w task })
    else None

abbrev pub shown_scope : Scope → LiveScope
shown_scope scope =
    record {
      owner = scope.owner;
      joiner = scope.joiner;
      timed = scope.timed;
      phase = scope.phase;
      cancelled = scope.cancelled;
      expired = scope.expired;
      environment = scope.environment;
      told = told scope.joiner (ends scope);
    }

abbrev pub live_scope : World → ℕ → Option LiveScope
live_scope w s =
    let scope = scope_at w s in if is_standing_scope scope then Some (shown_scope scope) else None

abbrev pub live : World → Live
live w =
    record {
      tasks = map (live_task w) (range_with_len 0 (length w.tasks));
      scopes = map (live_scope w) (range_with_len 0 (length w.scopes));
      root_end = (task_at w 0).outcome;
    }

-- ---- what is asked of the view

-- a task of the scope s, with its birth number
abbrev pub subtask_in : ℕ → ℕ × Option LiveTask → Option (ℕ × LiveTask)
subtask_in s (t, None) = None
subtask_in s (t, Some task) = if is_in s task.scope then Some (t, task) else None

-- the subtasks of a scope in fork order
abbrev pub subtasks_in : Live → ℕ → List (ℕ × LiveTask)
subtasks_in v s = filter_map (subtask_in s) (enumerate_from 0 v.tasks)

-- the joiner's result at this moment
abbrev pub result_in : Live → ℕ → Option Verdict
result_in v s =
    option_map (λ (scope : LiveScope). result_told scope.joiner scope.told (length
    (subtasks_in v s))) (slice_index_or v.scopes s None)
