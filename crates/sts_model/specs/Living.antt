-- Which tasks live, which are subtasks of a scope, and the state of a subtask.
-- Restates `StructuredTaskScope.Subtask.State` and "Description" of JEP 505. A subtask is a success
-- or failed if its end came before its scope was cancelled. Every other subtask is unavailable.
use Rattle.std.specs.Prelude.{ℕ, List, Bool, true, false, Option, Some, None, option_map, find}
use Rattle.std.specs.Prelude.{count_by, map, is_none, ◌&&◌, ◌==◌}
use Rattle.std.specs.List.{list_any}
use Rattle.sts_model.specs.declared.event.End.{End}
use Rattle.sts_model.specs.declared.event.Phase.{Phase}
use Rattle.sts_model.specs.declared.event.Phase.TheVariants.{Closed}
use Rattle.sts_model.specs.declared.record.Task.{Task}
use Rattle.sts_model.specs.declared.record.Scope.{Scope}
use Rattle.sts_model.specs.declared.record.Completion.{Completion}
use Rattle.sts_model.specs.World.{World, task_at, scope_at, no_scope}

-- was it started, and has it not ended?
abbrev pub lives : Task → Bool
lives task = task.started && is_none task.outcome

-- is it this scope?
abbrev pub is_in : ℕ → Option ℕ → Bool
is_in s None = false
is_in s (Some r) = r == s

-- is the task a subtask of the scope s? Birth order is fork order
abbrev pub is_subtask : ℕ → Task → Bool
is_subtask s task = is_in s task.scope

-- the number of subtasks of s, those counted too that never ran
abbrev pub subtask_count : World → ℕ → ℕ
subtask_count w s = count_by (is_subtask s) w.tasks

abbrev pub is_living_subtask : ℕ → Task → Bool
is_living_subtask s task = is_subtask s task && lives task

-- does a subtask of s live?
abbrev pub any_lives : World → ℕ → Bool
any_lives w s = list_any (is_living_subtask s) w.tasks

abbrev pub is_closed : Phase → Bool
is_closed Closed = true
is_closed _ = false

-- the ends in order of completion
abbrev pub ends_of : List Completion → List End
ends_of completions = map (λ (c : Completion). c.end) completions

abbrev pub ends : Scope → List End
ends scope = ends_of scope.completions

-- the end of a task as the completions have it
abbrev pub completion_of : List Completion → ℕ → Option End
completion_of completions t =
    option_map (λ (c : Completion). c.end) (find (λ (c : Completion). c.task == t) completions)

-- the scope that a task is a subtask of; for the root, which has none, a scope without bindings
abbrev pub parent : World → Option ℕ → Scope
parent w None = no_scope
parent w (Some s) = scope_at w s

abbrev pub scope_of : World → ℕ → Scope
scope_of w t = parent w (task_at w t).scope

-- the state of a subtask: a success or failed, as it completed; none means unavailable
abbrev pub sub_state : World → ℕ → Option End
sub_state w t = completion_of (scope_of w t).completions t
