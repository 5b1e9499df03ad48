-- The words for what a step did, seen from the story after it (this project's own).
use Rattle.std.specs.Prelude.{ℕ, List, [], ◌++◌, Bool, true, false, not, Option, Some}
use Rattle.std.specs.Prelude.{None, codes, is_some, if◌then◌else◌}
use Rattle.std.specs.Fmt.{decimal}
use Rattle.std.specs.List.{list_any}
use Rattle.sts_code.specs.declared.instr.Joiner.{Joiner}
use Rattle.sts_code.specs.declared.instr.Joiner.TheVariants.{AllSucceed, AnySucceeds, AwaitOk}
use Rattle.sts_code.specs.declared.instr.Joiner.TheVariants.{AwaitAll, Until}
use Rattle.sts_model.specs.declared.event.End.{End}
use Rattle.sts_model.specs.declared.event.Phase.{Phase}
use Rattle.sts_model.specs.declared.event.Phase.TheVariants as phase
use Rattle.sts_model.specs.declared.record.Completion.{Completion}
use Rattle.sts_model.specs.declared.record.Scope.{Scope}
use Rattle.sts_model.specs.Joining.{is_failure, is_success}
use Rattle.sts_model.specs.Living.{lives, sub_state}
use Rattle.sts_model.specs.Local.{operand}
use Rattle.sts_model.specs.World.{scope_at, task_at}
use Rattle.sts_output.specs.Printed.{fault_word}
use Rattle.look_names.specs.Words as names
use Rattle.look_run.specs.States.{end_words}
use Rattle.look_tell.specs.declared.deed.Deed.{Deed}
use Rattle.look_tell.specs.declared.deed.Deed.TheVariants as deed
use Rattle.look_tell.specs.Story.{Story, function_of, pc_of, world_of}
use Rattle.look_tell.specs.Words.{living_words, shown_value, task_words}

-- ---- where a task is, and what it has

-- the topmost operand of a living task
unfoldable pub top_words : List ℕ → Story → ℕ → List ℕ
top_words text s t =
    if lives (task_at (world_of s) t)
    then codes " " ++ shown_value text (operand (task_at (world_of s) t).frame 0) else []

-- a line of the text, with the name that the text gives it
unfoldable pub shown_place : List ℕ → ℕ → ℕ → List ℕ
shown_place text f pc = names.place_words text f pc

-- the line that a task goes on at
unfoldable pub goes_words : List ℕ → Story → ℕ → List ℕ
goes_words text s t =
    codes ", goes on at " ++ shown_place text (function_of s t) (pc_of s t)

-- ---- a `fork`

-- a fork in a cancelled scope makes a task that never starts
abbrev pub forks_words : List ℕ → Story → ℕ → List ℕ
forks_words text s t =
    codes ", forks " ++ task_words text s t
    ++ (if not (task_at (world_of s) t).started
    then codes ", which never starts: its scope was cancelled" else [])

-- ---- a `join`

-- is the outcome of a `join` failed, by the joiner and the ends that it got?
abbrev pub has_failed : Joiner → List Completion → Bool
has_failed AllSucceed ends = list_any (λ (c : Completion). is_failure c.end) ends
has_failed AwaitOk ends = list_any (λ (c : Completion). is_failure c.end) ends
has_failed AnySucceeds ends = not (list_any (λ (c : Completion). is_success c.end) ends)
has_failed AwaitAll ends = false
has_failed (Until p) ends = false

-- does the outcome ok push a value?
abbrev pub gives_value : Joiner → Bool
gives_value AllSucceed = true
gives_value AnySucceeds = true
gives_value AwaitOk = false
gives_value AwaitAll = false
gives_value (Until p) = true

abbrev pub failed_words : List ℕ → Story → ℕ → List ℕ
failed_words text s t = codes ", failed" ++ top_words text s t ++ goes_words text s t

abbrev pub ok_words : List ℕ → Story → ℕ → Joiner → List ℕ
ok_words text s t joiner =
    codes ", ok" ++ (if gives_value joiner then top_words text s t else [])

-- a timeout, or by the joiner failed or ok
abbrev pub joined_words : List ℕ → Story → ℕ → Scope → List ℕ
joined_words text s t scope =
    if scope.expired then codes ", timed out" ++ goes_words text s t
    else (if has_failed scope.joiner scope.completions then failed_words text s t
    else ok_words text s t scope.joiner)

abbrev pub is_attempted : Phase → Bool
is_attempted phase.Attempted = true
is_attempted _ = false

-- after an interrupt the scope is `attempted`
abbrev pub joins_words : List ℕ → Story → ℕ → ℕ → List ℕ
joins_words text s t scope =
    if is_attempted (scope_at (world_of s) scope).phase
    then codes ", interrupted" ++ goes_words text s t
    else joined_words text s t (scope_at (world_of s) scope)

-- ---- a `close`

-- the living subtasks, which a cancel interrupts
abbrev pub interrupts_words : List ℕ → Story → ℕ → List ℕ
interrupts_words text s scope = living_words text s (codes "; interrupts ") scope

-- that something cancels the scope, if it does
unfoldable pub cancels_words : List ℕ → Story → ℕ → Bool → List ℕ
cancels_words text s scope cancels =
    if cancels then codes " and cancels it" ++ interrupts_words text s scope else []

abbrev pub closing_words : List ℕ → Story → ℕ → Bool → List ℕ
closing_words text s scope cancels =
    codes ", begins to close scope " ++ decimal scope ++ cancels_words text s scope cancels

-- ---- an end

-- the joiner is told, and may ask for a cancel then
abbrev pub hearing_words : List ℕ → Story → ℕ → List ℕ
hearing_words text s scope =
    codes " is told" ++ cancels_words text s scope (scope_at (world_of s) scope).cancelled

-- is the joiner of this scope told of the task's end? Not if the scope was cancelled before
unfoldable pub told_words : List ℕ → Story → ℕ → ℕ → List ℕ
told_words text s t scope =
    if is_some (sub_state (world_of s) t) then hearing_words text s scope
    else codes " isn't told: the scope was cancelled"

-- a subtask has a joiner, the root has none
abbrev pub heard_words : List ℕ → Story → ℕ → Option ℕ → List ℕ
heard_words text s t None = []
heard_words text s t (Some scope) =
    codes "; the joiner of scope " ++ decimal scope ++ told_words text s t scope

abbrev pub ends_words : List ℕ → Story → ℕ → End → List ℕ
ends_words text s t end =
    codes ", " ++ end_words text end ++ heard_words text s t (task_at (world_of s) t).scope

-- ---- all of them

abbrev pub deed_words : List ℕ → Story → ℕ → Deed → List ℕ
deed_words text s t deed.Own = []
deed_words text s t deed.Gives = codes ", gives" ++ top_words text s t
deed_words text s t deed.Goes = goes_words text s t
deed_words text s t (deed.Opens scope) = codes ", opens scope " ++ decimal scope
deed_words text s t (deed.Forks child) = forks_words text s child
deed_words text s t (deed.Joins scope) = joins_words text s t scope
deed_words text s t (deed.BeginsToClose scope cancels) = closing_words text s scope cancels
deed_words text s t (deed.Closes scope) = codes ", closes scope " ++ decimal scope
deed_words text s t (deed.Ends end) = ends_words text s t end
deed_words text s t (deed.Faults kind) = codes ", fault " ++ fault_word kind
