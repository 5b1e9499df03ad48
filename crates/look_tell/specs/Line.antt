-- The lines of an event (this project's own).
use Rattle.std.specs.Prelude.{ℕ, ◌+◌, List, [], ◌∷◌, ◌++◌, Bool, true, ◌&&◌, ◌||◌, not, nat_le}
use Rattle.std.specs.Prelude.{nat_lt, length, codes, if◌then◌else◌}
use Rattle.std.specs.Fmt.{decimal}
use Rattle.sts_model.specs.declared.event.Event.{Event}
use Rattle.sts_model.specs.declared.event.Event.TheVariants as event
use Rattle.sts_model.specs.declared.event.Stand.{Stand}
use Rattle.sts_model.specs.declared.event.Stand.TheVariants.{Free, AtJoin, AtClose}
use Rattle.sts_model.specs.Living.{lives}
use Rattle.sts_model.specs.Waiting.{can_step, stand_at}
use Rattle.sts_model.specs.World.{scope_at, task_at}
use Rattle.sts_output.specs.Printed.{rest_words}
use Rattle.sts_plain.specs.Seen.{shown}
use Rattle.sts_plain.specs.declared.misstep.PlainState.{PlainState}
use Rattle.sts_plain.specs.declared.misstep.PlainState.TheVariants as plain
use Rattle.look_tell.specs.declared.deed.Deed.{Deed}
use Rattle.look_tell.specs.declared.deed.Deed.TheVariants as deed
use Rattle.look_options.specs.declared.stories.TellOptions.{TellOptions}
use Rattle.look_tell.specs.Deed.{next_deed}
use Rattle.look_tell.specs.Outcome.{deed_words, interrupts_words}
use Rattle.look_tell.specs.Story.{Story, is_idle, next, program_of, world_of}
use Rattle.look_tell.specs.Words.{living_words, place_words, task_words}

-- the number of an event and a blank
abbrev pub number_words : ℕ → List ℕ
number_words n = decimal n ++ codes " "

-- does an event of this number have lines?
abbrev pub is_asked : TellOptions → ℕ → Bool
is_asked o n = nat_le o.first n

-- where a task is, after the number of an event
abbrev pub head_words : List ℕ → ℕ → Story → ℕ → List ℕ
head_words text n s t = number_words n ++ place_words text s t

-- ---- a step

-- a step that changes the task alone has a line only if each is asked for
abbrev pub is_told : TellOptions → Deed → Bool
is_told o deed.Own = o.each
is_told o _ = true

-- may the task not step, although it lives?
abbrev pub is_waiting : Story → ℕ → Bool
is_waiting s t = lives (task_at (world_of s) t) && not (can_step (program_of s) (world_of s) t)

-- the subtasks that a task waits for
abbrev pub waits_for : List ℕ → Story → Stand → List ℕ
waits_for text s Free = []
waits_for text s (AtJoin scope) = living_words text s (codes " waits for ") scope
waits_for text s (AtClose scope) = living_words text s (codes " waits for ") scope

-- `29 task 0, main, line 24: join s0 - - intr waits for task 2, handle(1)`
abbrev pub wait_line : List ℕ → ℕ → Story → ℕ → List ℕ
wait_line text n s t =
    head_words text n s t
    ++ waits_for text s (stand_at (program_of s) (world_of s) t) ++ codes "\n"

-- that the task waits now, if it does
abbrev pub wait_block : List ℕ → ℕ → Story → ℕ → List ℕ
wait_block text n s t = if is_waiting s t then wait_line text n s t else []

-- `20 task 1, handle(1), line 5: ret, success 1; the joiner of scope 0 is told`: the place before
-- the step, and what the step did, which the story after it shows
abbrev pub step_line : List ℕ → ℕ → Story → Story → ℕ → Deed → List ℕ
step_line text n before after t d =
    head_words text n before t ++ deed_words text after t d ++ codes "\n"

-- the line of a step, if it has one
unfoldable pub told_step : List ℕ → TellOptions → ℕ → Story → Story → ℕ → Deed → List ℕ
told_step text o n before after t d =
    if is_told o d then step_line text n before after t d else []

-- what the task does, then whether it waits now
abbrev pub step_block : List ℕ → TellOptions → ℕ → Story → Story → ℕ → List ℕ
step_block text o n before after t =
    told_step text o n before after t (next_deed (program_of before) (world_of before) t)
    ++ wait_block text n after t

-- ---- an event from outside

-- `21 interrupt of task 0, main`
abbrev pub interrupt_line : List ℕ → ℕ → Story → ℕ → List ℕ
interrupt_line text n s t =
    number_words n ++ codes "interrupt of " ++ task_words text s t
    ++ (if (task_at (world_of s) t).flag then codes ", which was interrupted before" else [])
    ++ codes "\n"

abbrev pub expired_words : List ℕ → Story → ℕ → Bool → List ℕ
expired_words text after scope was_cancelled =
    if was_cancelled then codes ", which was cancelled before"
    else codes " cancels it" ++ interrupts_words text after scope

-- an expiry of a scope that was cancelled before or not, and the story after it
abbrev pub expired_line : List ℕ → ℕ → Story → ℕ → Bool → List ℕ
expired_line text n after scope was_cancelled =
    number_words n ++ codes "expiry of scope " ++ decimal scope
    ++ expired_words text after scope was_cancelled ++ codes "\n"

-- `33 expiry of scope 2 cancels it; interrupts task 4, work and task 5, work`
abbrev pub expiry_line : List ℕ → ℕ → Story → Story → ℕ → List ℕ
expiry_line text n before after scope =
    expired_line text n after scope (scope_at (world_of before) scope).cancelled

-- ---- an event that doesn't count

abbrev pub has_task : Story → ℕ → Bool
has_task s t = nat_lt t (length (world_of s).tasks)

abbrev pub idle_task : List ℕ → Story → ℕ → List ℕ
idle_task text s t =
    if has_task s t
    then task_words text s t
    ++ rest_words (lives (task_at (world_of s) t)) (task_at (world_of s) t).started
    else codes "there is no task " ++ decimal t

abbrev pub has_scope : Story → ℕ → Bool
has_scope s scope = nat_lt scope (length (world_of s).scopes)

abbrev pub idle_scope : Story → ℕ → List ℕ
idle_scope s scope =
    if has_scope s scope then codes "scope " ++ decimal scope ++ codes " can't expire now"
    else codes "there is no scope " ++ decimal scope

abbrev pub idle_words : List ℕ → Story → Event → List ℕ
idle_words text s (event.Step t) = codes "idle: " ++ idle_task text s t
idle_words text s (event.Interrupt t) = codes "idle interrupt: " ++ idle_task text s t
idle_words text s (event.Expire scope) = codes "idle expiry: " ++ idle_scope s scope

-- after a fault no event counts
abbrev pub idle_by : List ℕ → Story → PlainState → Event → List ℕ
idle_by text s (plain.Fault kind t f pc) e = codes "idle: the run has stopped at its fault"
idle_by text s _ e = idle_words text s e

-- `40 idle: task 3, work(2) waits`
abbrev pub idle_line : List ℕ → ℕ → Story → Event → List ℕ
idle_line text n s e = number_words n ++ idle_by text s (shown s.watched.state) e ++ codes "\n"

-- ---- any event

abbrev pub counted_block : List ℕ → TellOptions → ℕ → Story → Event → List ℕ
counted_block text o n s (event.Step t) =
    step_block text o n s (next o.strict s (event.Step t)) t
counted_block text o n s (event.Interrupt t) = interrupt_line text n s t
counted_block text o n s (event.Expire scope) =
    expiry_line text n s (next o.strict s (event.Expire scope)) scope

abbrev pub event_block : List ℕ → TellOptions → ℕ → Story → Event → List ℕ
event_block text o n s e =
    if is_idle s e then idle_line text n s e else counted_block text o n s e

-- the lines of an event from the first number on, unless the story has stopped
abbrev pub asked_block : List ℕ → TellOptions → ℕ → Story → Event → List ℕ
asked_block text o n s e =
    if s.stopped || not (is_asked o n) then [] else event_block text o n s e

-- the lines of these events, numbered from n on
abbrev pub lines_from : List ℕ → TellOptions → ℕ → Story → List Event → List ℕ
lines_from text o n s [] = []
lines_from text o n s (e ∷ es) =
    asked_block text o n s e ++ lines_from text o (n + 1) (next o.strict s e) es
