-- Cancelling a scope, in a live view (this project's own).
use Rattle.std.specs.Prelude.{ℕ, map, true, option_map, if◌then◌else◌}
use Rattle.sts_model.specs.Living.{is_in}
use Rattle.sts_model.specs.Live.{Live, LiveTask, Alive}
use Rattle.laws_live.specs.Reading.{live_scope_at, with_live_scope}

-- the task with its flag set, if it is a living subtask of s
abbrev pub live_raise : ℕ → LiveTask → LiveTask
live_raise s task =
    if is_in s task.scope
    then record task {
      alive = option_map (λ (alive : Alive). record alive { flag = true }) task.alive;
    }
    else task

abbrev pub live_raised : ℕ → Live → Live
live_raised s v = record v { tasks = map (option_map (live_raise s)) v.tasks }

-- the scope is marked, and its living subtasks have their flags set
abbrev pub live_marked : Live → ℕ → Live
live_marked v s = with_live_scope (live_raised s v) s (λ scope. record scope { cancelled = true })

-- a second cancel does nothing
abbrev pub live_cancel : Live → ℕ → Live
live_cancel v s = if (live_scope_at v s).cancelled then v else live_marked v s
