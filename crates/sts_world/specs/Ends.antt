-- For each task, whether the joiner of its scope was told of its end. A subtask's state is then
-- found with the task (this project's own).
use Rattle.std.specs.Prelude.{◌≡◌, ℕ, List, length, Bool, false, Option, None, ◌&&◌, if◌then◌else◌}
use Rattle.std.specs.Prelude.{slice_index_or}
use Rattle.sts_model.specs.declared.event.End.{End}
use Rattle.sts_model.specs.declared.record.Task.{Task}
use Rattle.sts_model.specs.Living.{completion_of, is_subtask}
use Rattle.sts_model.specs.World.{World, task_at, scope_at}

-- the task's end, if it is a subtask of s and counted by the joiner of s
abbrev pub end_in : ℕ → Task → Bool → Option End
end_in s task told = if is_subtask s task && told then task.outcome else None

-- the list says for each task whether the joiner of its scope was told: the completions of a scope
-- are the ends of exactly those subtasks
pub record KnowsEnds (w : World) (was_told : List Bool) : Type 0 where
  pub as_many : length was_told ≡ length w.tasks
  pub ends : (s t : ℕ)
      → completion_of (scope_at w s).completions t ≡ end_in s (task_at w t)
      (slice_index_or was_told t false)
