-- The members of a view, put one after the other (this project's own).
use Rattle.std.specs.Prelude.{ℕ, Bool, List, codes, if◌then◌else◌}
use Rattle.serde_json.specs.Data.{Items, Members, array, boolean, member, no_members, put, string}
use Rattle.serde_json.specs.View.{items_of}
use Rattle.sts_plain.specs.Seen.{shown}
use Rattle.sts_trace.specs.Spelling.{event_text}
use Rattle.look_lines.specs.Watched.{Watched}
use Rattle.look_lines.specs.declared.watch.Applied.{Applied}
use Rattle.look_options.specs.declared.views.ViewOptions.{ViewOptions}
use Rattle.look_cases.specs.Json.{count}
use Rattle.look_views.specs.Scope.{open_scopes, scopes}
use Rattle.look_views.specs.Task.{living_tasks, tasks}
use Rattle.look_views.specs.Views.{not_shown, run, version}

-- with the state of the run
abbrev pub with_run : List ℕ → Watched → Members → Members
with_run text m ms = put (codes "run") (run text m.program (shown m.state) m.steps) ms

-- with scopes and tasks
abbrev pub with_lists : Items → Items → Members → Members
with_lists scopes tasks ms =
    put (codes "tasks") (array tasks) (put (codes "scopes") (array scopes) ms)

-- and with all tasks and scopes
abbrev pub with_whole : List ℕ → Bool → Watched → Members → Members
with_whole text full m ms =
    with_lists (items_of (scopes text full m.last m.last.scopes 0))
    (items_of (tasks text m.program full m.last m.last.tasks 0)) (with_run text m ms)

-- or with only the tasks that live and the scopes that are open
abbrev pub with_living : List ℕ → Bool → Watched → Members → Members
with_living text full m ms =
    with_lists (items_of (open_scopes text full m.last m.last.scopes 0))
    (items_of (living_tasks text m.program full m.last m.last.tasks 0))
    (with_run text m (put (codes "not_shown") (not_shown m.last) ms))

-- with the tasks and scopes that are wanted
abbrev pub with_stand : List ℕ → ViewOptions → Watched → Members → Members
with_stand text wanted m ms =
    if wanted.living then with_living text wanted.full m ms else with_whole text wanted.full m ms

-- the number of the last event
abbrev pub numbered : ℕ → Members
numbered n = member (codes "after") (count n) (member (codes "version") version no_members)

abbrev pub applied_event : Applied → Members
applied_event a =
    member (codes "after") (count a.number)
    (member (codes "counts") (boolean a.is_counted)
    (member (codes "event") (string (event_text a.event))
    (member (codes "version") version no_members)))
