-- Cancelling a scope.
-- Restates `StructuredTaskScope.isCancelled` and `join`, and "Description" of JEP 505: no new
-- thread starts in a cancelled scope, and the threads of its unfinished subtasks are interrupted.
-- The scopes that those subtasks own are not cancelled.
use Rattle.std.specs.Prelude.{ℕ, List, map, true, if◌then◌else◌}
use Rattle.sts_model.specs.declared.record.Task.{Task}
use Rattle.sts_model.specs.World.{World, scope_at, with_scope}
use Rattle.sts_model.specs.Living.{is_living_subtask}

-- the task with its flag set, if it is a living subtask of s
abbrev pub raise : ℕ → Task → Task
raise s task = if is_living_subtask s task then record task { flag = true } else task

abbrev pub raised : ℕ → List Task → List Task
raised s tasks = map (raise s) tasks

-- the scope is marked, and its living subtasks have their flags set
abbrev pub marked : World → ℕ → World
marked w s =
    record {
      tasks = raised s w.tasks;
      scopes = (with_scope w s (record (scope_at w s) { cancelled = true })).scopes;
    }

-- a second cancel does nothing
abbrev pub cancel : World → ℕ → World
cancel w s = if (scope_at w s).cancelled then w else marked w s
