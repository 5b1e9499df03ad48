-- A task as JSON (this project's own; docs/IMPLEMENTERS.md has the schema).
use Rattle.std.specs.Prelude.{ℕ, ℤ, ◌+◌, ◌-◌, Bool, not, List, [], ◌∷◌, ◌++◌, map, reverse, Option, Some, None}
use Rattle.std.specs.Prelude.{codes, ◌&&◌, if◌then◌else◌}
use Rattle.std.specs.List.{flat_map}
use Rattle.serde_json.specs.Data.{Data, array, boolean, null, string}
use Rattle.serde_json.specs.View.{items_of}
use Rattle.sts_code.specs.Program.{Program, routine}
use Rattle.sts_model.specs.declared.event.End.{End}
use Rattle.sts_model.specs.declared.event.End.TheVariants.{Success, Failed}
use Rattle.sts_model.specs.declared.event.Stand.{Stand}
use Rattle.sts_model.specs.declared.event.Stand.TheVariants.{Free, AtJoin, AtClose}
use Rattle.sts_model.specs.declared.record.Task.{Task}
use Rattle.sts_model.specs.Environment.{environment_of, read}
use Rattle.sts_model.specs.Living.{lives}
use Rattle.sts_model.specs.Waiting.{can_step, stand_at}
use Rattle.sts_model.specs.World.{World, task_at}
use Rattle.look_cases.specs.Json.{count, count_or_null, integer, object_of}
use Rattle.look_lines.specs.Lines.{is_heard, keys}
use Rattle.look_names.specs.Names.{value_name}
use Rattle.look_views.specs.Named.{named, placed}

-- ---- the state

abbrev pub plain_state : List ℕ → Data
plain_state word = object_of ((codes "is", string word) ∷ [])

abbrev pub waits : List ℕ → ℕ → Data
waits word s = object_of (
    (codes "is", string word) ∷
    (codes "scope", count s) ∷ [])

-- what a task that can't step waits for; a task at no scope can step
abbrev pub waiting : Stand → Data
waiting Free = null
waiting (AtJoin s) = waits (codes "waits join") s
waiting (AtClose s) = waits (codes "waits close") s

-- the state of a living task
abbrev pub living : Bool → Stand → Data
living can_go stand = if can_go then plain_state (codes "ready") else waiting stand

-- how a task ended, whether it is the root or its joiner was told, and the name of its value or code
abbrev pub ended : List ℕ → Bool → Option End → Data
ended text heard None = null
ended text heard (Some (Success v)) = named (codes "name") (value_name text v) (object_of (
    (codes "heard", boolean heard) ∷
    (codes "is", string (codes "success")) ∷
    (codes "value", integer v) ∷ []))
ended text heard (Some (Failed c)) = named (codes "name") (value_name text c) (object_of (
    (codes "code", integer c) ∷
    (codes "heard", boolean heard) ∷
    (codes "is", string (codes "failed")) ∷ []))

-- the state of a task that doesn't live: a fork in a cancelled scope makes a task that never starts
abbrev pub rest : List ℕ → World → ℕ → Data
rest text w t =
    if (task_at w t).started
    then ended text (is_heard w t (task_at w t).scope) (task_at w t).outcome
    else plain_state (codes "never-started")

abbrev pub state : List ℕ → Program → World → ℕ → Data
state text p w t =
    if lives (task_at w t) then living (can_step p w t) (stand_at p w t) else rest text w t

-- ---- what a living task has

abbrev pub integers : List ℤ → List Data
integers values = map integer values

-- the operands, the top last
abbrev pub operands : List ℤ → List Data
operands values = integers (reverse values)

abbrev pub binding : ℕ → ℤ → Data
binding k v = object_of (
    (codes "key", count k) ∷
    (codes "value", integer v) ∷ [])

abbrev pub maybe_binding : ℕ → Option ℤ → List Data
maybe_binding k None = []
maybe_binding k (Some v) = binding k v ∷ []

-- the keys among these that `read` finds a value for, with the innermost values
abbrev pub bindings : World → ℕ → List ℕ → List Data
bindings w t ks = flat_map (λ k. maybe_binding k (read (environment_of (task_at w t) w) k)) ks

abbrev pub bound : World → ℕ → List Data
bound w t = bindings w t keys

abbrev pub frame : World → ℕ → Data
frame w t = object_of (
    (codes "bound", array (items_of (bound w t))) ∷
    (codes "locals", array (items_of (integers (task_at w t).frame.locals))) ∷
    (codes "operands", array (items_of (operands (task_at w t).frame.operands))) ∷ [])

-- ---- the task

-- the place of the next instruction of a task, or after its end that of its last one
abbrev pub shown_place : Task → ℕ
shown_place task =
    if task.started && not (lives task) then task.frame.pc - 1 else task.frame.pc

abbrev pub members : List ℕ → Program → World → ℕ → List (List ℕ × Data)
members text p w t =
    (codes "function", string (routine p (task_at w t).frame.function).name) ∷
    (codes "interrupted", boolean (task_at w t).flag) ∷
    (codes "place", count (task_at w t).frame.pc) ∷
    (codes "state", state text p w t) ∷
    (codes "task", count t) ∷
    (codes "under", count_or_null (task_at w t).scope) ∷ []

abbrev pub brief : List ℕ → Program → World → ℕ → Data
brief text p w t = object_of (members text p w t)

abbrev pub whole : List ℕ → Program → World → ℕ → Data
whole text p w t = object_of ((codes "frame", frame w t) ∷ members text p w t)

-- in full a living task has its frame
abbrev pub plain_task : List ℕ → Program → Bool → World → ℕ → Data
plain_task text p full w t =
    if full && lives (task_at w t) then whole text p w t else brief text p w t

-- with the names of its function and its line
abbrev pub task : List ℕ → Program → Bool → World → ℕ → Data
task text p full w t =
    placed text (task_at w t).frame.function (shown_place (task_at w t))
    (plain_task text p full w t)

-- these tasks, numbered from t on
abbrev pub tasks : List ℕ → Program → Bool → World → List Task → ℕ → List Data
tasks text p full w [] t = []
tasks text p full w (x ∷ xs) t = task text p full w t ∷ tasks text p full w xs (t + 1)

-- a task, if it lives
abbrev pub maybe_living : List ℕ → Program → Bool → World → ℕ → List Data
maybe_living text p full w t = if lives (task_at w t) then task text p full w t ∷ [] else []

-- the living tasks among these, numbered from t on
abbrev pub living_tasks : List ℕ → Program → Bool → World → List Task → ℕ → List Data
living_tasks text p full w [] t = []
living_tasks text p full w (x ∷ xs) t =
    maybe_living text p full w t ++ living_tasks text p full w xs (t + 1)
