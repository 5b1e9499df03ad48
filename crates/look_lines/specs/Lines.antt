-- The lines of a state: one for each task and each scope that was ever born, or only for those that
-- live and are open, and more on request (this project's own). What they say of a value, a function
-- and a place is a parameter.
use Rattle.std.specs.Prelude.{ℕ, ℤ, pos, ◌+◌, Bool, true, List, ◌∷◌, [], ◌++◌, reverse, Option}
use Rattle.std.specs.Prelude.{Some, None, is_some, codes, not, ◌&&◌, ◌==◌, if◌then◌else◌, count_by}
use Rattle.std.specs.List.{flat_map}
use Rattle.std.specs.Ordering.{int_eq}
use Rattle.std.specs.Fmt.{decimal}
use Rattle.sts_code.specs.Program.{Program}
use Rattle.sts_model.specs.declared.event.End.{End}
use Rattle.sts_model.specs.declared.event.End.TheVariants.{Success, Failed}
use Rattle.sts_model.specs.declared.event.Phase.{Phase}
use Rattle.sts_model.specs.declared.event.Phase.TheVariants as phase
use Rattle.sts_model.specs.declared.event.Stand.{Stand}
use Rattle.sts_model.specs.declared.event.Stand.TheVariants.{Free, AtJoin, AtClose}
use Rattle.sts_model.specs.declared.record.Completion.{Completion}
use Rattle.sts_model.specs.declared.record.Scope.{Scope}
use Rattle.sts_model.specs.declared.record.Task.{Task}
use Rattle.sts_model.specs.Environment.{environment_of, read}
use Rattle.sts_model.specs.Living.{lives, is_closed, sub_state}
use Rattle.sts_model.specs.Outside.{can_expire}
use Rattle.sts_model.specs.Waiting.{can_step, stand_at}
use Rattle.sts_model.specs.World.{World, task_at, scope_at}
use Rattle.sts_list.specs.Spelling.{after_spaces, joiner_words}
use Rattle.sts_output.specs.Printed.{ended}
use Rattle.look_options.specs.declared.views.ViewOptions.{ViewOptions}
use Rattle.look_lines.specs.Naming.{Naming, plain}

-- a word, if the condition holds
abbrev pub only_if : Bool → List ℕ → List ℕ
only_if b word = if b then word else []

-- ---- a task

-- the scope that a task is a subtask of, or `-` for the root
abbrev pub under_words : Option ℕ → List ℕ
under_words None = codes "-"
under_words (Some s) = decimal s

-- is the task the root, or was the joiner of its scope told of its end?
abbrev pub is_heard : World → ℕ → Option ℕ → Bool
is_heard w t None = true
is_heard w t (Some s) = is_some (sub_state w t)

-- how a task ended
abbrev pub end_words : Naming → Option End → List ℕ
end_words n None = []
end_words n (Some (Success v)) = codes " success " ++ n.value v
end_words n (Some (Failed c)) = codes " failed " ++ n.value c

-- what a task that can't step waits for; a task at no scope can step
abbrev pub wait_words : Stand → List ℕ
wait_words Free = []
wait_words (AtJoin s) = codes " waits join " ++ decimal s
wait_words (AtClose s) = codes " waits close " ++ decimal s

-- the state of a living task
abbrev pub life_words : Bool → Stand → List ℕ
life_words can_go stand = if can_go then codes " ready" else wait_words stand

-- how a task ended that was started and doesn't live; `unheard` if its scope was cancelled before
abbrev pub ended_words : Naming → World → ℕ → List ℕ
ended_words n w t =
    (if is_heard w t (task_at w t).scope then [] else codes " unheard")
    ++ end_words n (task_at w t).outcome

-- the state of a task that doesn't live: a fork in a cancelled scope makes a task that never starts
abbrev pub rest_words : Naming → World → ℕ → List ℕ
rest_words n w t = if (task_at w t).started then ended_words n w t else codes " never-started"

abbrev pub state_words : Naming → Program → World → ℕ → List ℕ
state_words n p w t =
    if lives (task_at w t) then life_words (can_step p w t) (stand_at p w t) else rest_words n w t

-- the same without names of a text
abbrev pub stand_words : Program → World → ℕ → List ℕ
stand_words p w t = state_words plain p w t

-- `task T under S in NAME at PC`, and what is said of the place
abbrev pub task_place : Naming → Program → World → ℕ → List ℕ
task_place n p w t =
    codes "task " ++ decimal t ++ codes " under " ++ under_words (task_at w t).scope ++ codes " in "
    ++ n.function p (task_at w t).frame.function
    ++ (codes " at " ++ decimal (task_at w t).frame.pc ++ n.place (task_at w t))

-- the state of the task, and whether an interrupt is pending
abbrev pub task_stand : Naming → Program → World → ℕ → List ℕ
task_stand n p w t =
    state_words n p w t ++ ended (only_if (task_at w t).flag (codes " interrupted"))

abbrev pub task_line : Naming → Program → World → ℕ → List ℕ
task_line n p w t = task_place n p w t ++ task_stand n p w t

-- ---- what a living task has, on request

-- a value after a blank
abbrev pub operand_words : Naming → ℤ → List ℕ
operand_words n v = codes " " ++ n.value v

-- the operands, the top last
abbrev pub operands_line : Naming → List ℤ → List ℕ
operands_line n operands =
    codes "  operands" ++ ended (flat_map (operand_words n) (reverse operands))

-- ` N=V`
abbrev pub pair_words : Naming → ℕ → ℤ → List ℕ
pair_words n k v = codes " " ++ decimal k ++ codes "=" ++ n.value v

-- the value of a local, unless it is 0
abbrev pub local_word : Naming → ℕ → ℤ → List ℕ
local_word n x v = if int_eq v (pos 0) then [] else pair_words n x v

-- the locals from this one on that aren't 0
abbrev pub local_words : Naming → List ℤ → ℕ → List ℕ
local_words n [] x = []
local_words n (v ∷ vs) x = local_word n x v ++ local_words n vs (x + 1)

abbrev pub locals_line : Naming → List ℤ → List ℕ
locals_line n locals = codes "  locals" ++ ended (local_words n locals 0)

-- the value of a key, if it is bound
abbrev pub bound_words : Naming → ℕ → Option ℤ → List ℕ
bound_words n k None = []
bound_words n k (Some v) = pair_words n k v

-- the keys among these that `read` finds a value for, with the innermost values
abbrev pub key_words : Naming → World → ℕ → List ℕ → List ℕ
key_words n w t keys =
    flat_map (λ k. bound_words n k (read (environment_of (task_at w t) w) k)) keys

abbrev pub keys : List ℕ
keys = 0 ∷ 1 ∷ 2 ∷ 3 ∷ 4 ∷ 5 ∷ 6 ∷ 7 ∷ 8 ∷ 9 ∷ 10 ∷ 11 ∷ 12 ∷ 13 ∷ 14 ∷ 15 ∷ []

abbrev pub bound_line : Naming → World → ℕ → List ℕ
bound_line n w t = codes "  bound" ++ ended (key_words n w t keys)

abbrev pub frame_lines : Naming → World → ℕ → List ℕ
frame_lines n w t =
    operands_line n (task_at w t).frame.operands
    ++ (locals_line n (task_at w t).frame.locals ++ bound_line n w t)

-- the lines of a task that is wanted; in full they show what a living task has
abbrev pub task_block : Naming → Program → ViewOptions → World → ℕ → List ℕ
task_block n p wanted w t =
    if wanted.living && not (lives (task_at w t)) then []
    else task_line n p w t ++ (if wanted.full && lives (task_at w t) then frame_lines n w t else [])

-- the lines of these tasks, numbered from t on
abbrev pub task_lines : Naming → Program → ViewOptions → World → List Task → ℕ → List ℕ
task_lines n p wanted w [] t = []
task_lines n p wanted w (x ∷ xs) t =
    task_block n p wanted w t ++ task_lines n p wanted w xs (t + 1)

-- ---- a scope

abbrev pub phase_word : Phase → List ℕ
phase_word phase.Opened = codes "opened"
phase_word phase.Attempted = codes "attempted"
phase_word phase.Joined = codes "joined"
phase_word phase.Closing = codes "closing"
phase_word phase.Closed = codes "closed"

-- `scope S of OWNER JOINER`
abbrev pub scope_place : ℕ → Scope → List ℕ
scope_place s scope =
    codes "scope " ++ decimal s ++ codes " of " ++ decimal scope.owner
    ++ after_spaces (joiner_words scope.joiner)

-- ` PHASE`, and what else holds of a scope
abbrev pub scope_marks : Scope → List ℕ
scope_marks scope =
    codes " " ++ phase_word scope.phase ++ only_if scope.timed (codes " timed")
    ++ only_if scope.cancelled (codes " cancelled") ++ only_if scope.expired (codes " expired")
    ++ ended (only_if (can_expire scope) (codes " may-expire"))

-- an end that the joiner was told of: `told T success V` or `told T failed C`
abbrev pub told_line : Naming → Completion → List ℕ
told_line n c = codes "  told " ++ decimal c.task ++ ended (end_words n (Some c.end))

abbrev pub told_lines : Naming → List Completion → List ℕ
told_lines n completions = flat_map (told_line n) completions

-- the lines of a scope that is wanted; in full they show the ends that its joiner was told of
abbrev pub scope_block : Naming → ViewOptions → ℕ → Scope → List ℕ
scope_block n wanted s scope =
    if wanted.living && is_closed scope.phase then []
    else scope_place s scope
    ++ (scope_marks scope ++ (if wanted.full then told_lines n scope.completions else []))

-- the lines of these scopes, numbered from s on
abbrev pub scope_lines : Naming → ViewOptions → World → List Scope → ℕ → List ℕ
scope_lines n wanted w [] s = []
scope_lines n wanted w (x ∷ xs) s =
    scope_block n wanted s (scope_at w s) ++ scope_lines n wanted w xs (s + 1)

-- ---- what has no line

-- the number of tasks that don't live
abbrev pub resting : List Task → ℕ
resting tasks = count_by (λ task. not (lives task)) tasks

-- the number of scopes that are closed
abbrev pub closed : List Scope → ℕ
closed scopes = count_by (λ (scope : Scope). is_closed scope.phase) scopes

abbrev pub counted_word : ℕ → List ℕ → List ℕ → List ℕ
counted_word n one several = if n == 1 then one else several

-- how many tasks and scopes have no line
abbrev pub others_line : ℕ → ℕ → List ℕ
others_line tasks scopes =
    codes "not shown: " ++ decimal tasks
    ++ counted_word tasks (codes " task that doesn't live") (codes " tasks that don't live")
    ++ codes ", " ++ decimal scopes
    ++ ended (counted_word scopes (codes " closed scope") (codes " closed scopes"))

abbrev pub others : ViewOptions → World → List ℕ
others wanted w = if wanted.living then others_line (resting w.tasks) (closed w.scopes) else []
