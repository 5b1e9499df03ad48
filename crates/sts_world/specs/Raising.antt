-- Raising flags one task at a time (this project's own).
use Rattle.std.specs.Prelude.{ℕ, List, fold, slice_set, slice_index_or}
use Rattle.sts_model.specs.declared.record.Task.{Task}
use Rattle.sts_model.specs.World.{no_task}
use Rattle.sts_model.specs.Cancelling.{raise}

-- the tasks with the flag of task t set, if it is a living subtask of s
abbrev pub raise_at : ℕ → List Task → ℕ → List Task
raise_at s tasks t = slice_set tasks t (raise s (slice_index_or tasks t no_task))

abbrev pub raise_each : ℕ → List Task → List ℕ → List Task
raise_each s tasks births = fold (raise_at s) tasks births
