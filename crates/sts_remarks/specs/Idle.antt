-- The line about the first event of a trace that did nothing (this project's own).
use Rattle.std.specs.Prelude.{ℕ, ◌+◌, List, [], ◌∷◌, ◌++◌, Bool, Option, Some, None, option_map}
use Rattle.std.specs.Prelude.{nat_lt, length, codes, if◌then◌else◌}
use Rattle.std.specs.Fmt.{decimal}
use Rattle.sts_code.specs.Program.{Program}
use Rattle.sts_model.specs.declared.event.Event.{Event}
use Rattle.sts_model.specs.declared.event.Event.TheVariants as event
use Rattle.sts_model.specs.Living.{lives}
use Rattle.sts_model.specs.Run.{apply, counts}
use Rattle.sts_model.specs.World.{World, State, Running, Faulted, opening, task_at}
use Rattle.sts_trace.specs.Spelling.{event_text}
use Rattle.sts_output.specs.Printed.{rest_words}

-- ---- why an event does nothing

abbrev pub has_task : World → ℕ → Bool
has_task w t = nat_lt t (length w.tasks)

abbrev pub task_reason : World → ℕ → List ℕ
task_reason w t =
    if has_task w t
    then codes "task " ++ decimal t ++ rest_words (lives (task_at w t)) (task_at w t).started
    ++ codes " then"
    else codes "there is no task " ++ decimal t ++ codes " then"

abbrev pub has_scope : World → ℕ → Bool
has_scope w s = nat_lt s (length w.scopes)

abbrev pub scope_reason : World → ℕ → List ℕ
scope_reason w s =
    if has_scope w s then codes "scope " ++ decimal s ++ codes " can't expire then"
    else codes "there is no scope " ++ decimal s ++ codes " then"

abbrev pub reason : World → Event → List ℕ
reason w (event.Step t) = task_reason w t
reason w (event.Interrupt t) = task_reason w t
reason w (event.Expire s) = scope_reason w s

-- ---- the first event that does nothing

-- `, line 2: "step 99" did nothing, since there is no task 99 then`
abbrev pub idle_words : List ℕ → ℕ → World → Event → List ℕ
idle_words unit n w e =
    codes ", " ++ unit ++ codes " " ++ decimal n ++ codes ": \"" ++ event_text e
    ++ codes "\" did nothing, since " ++ reason w e

-- what is said of the first of these events that doesn't count, if the machine has not faulted
-- before; they are numbered from n on
abbrev pub first_idle : List ℕ → Program → State → ℕ → List Event → Option (List ℕ)
first_idle unit p state n [] = None
first_idle unit p (Faulted kind t f pc) n (e ∷ es) = None
first_idle unit p (Running w) n (e ∷ es) =
    if counts p (Running w) e then first_idle unit p (apply p (Running w) e) (n + 1) es
    else Some (idle_words unit n w e)

-- words about a trace, behind the names of the program that reports them and of the trace
abbrev pub line_about : List ℕ → List ℕ → List ℕ → List ℕ
line_about name trace words = name ++ codes ": " ++ trace ++ words ++ codes "\n"

abbrev pub idle_line : List ℕ → List ℕ → List ℕ → Program → List Event → Option (List ℕ)
idle_line name trace unit p events =
    option_map (line_about name trace) (first_idle unit p (opening p) 1 events)
