-- How a trace and the outside events are spelled: one spelling for each (this project's own).
use Rattle.std.specs.Prelude.{ℕ, ◌<◌, ◌≤◌, ◌^◌, List, ◌++◌, length, Bool, false, true, codes}
use Rattle.std.specs.Prelude.{IsTrue}
use Rattle.std.specs.List.{flat_map, All}
use Rattle.std.specs.Fmt.{decimal}
use Rattle.sts_code.specs.declared.limits.TheConstants.{MAX_OUTSIDE}
use Rattle.sts_model.specs.declared.event.Event.{Event}
use Rattle.sts_model.specs.declared.event.Event.TheVariants.{Step, Interrupt, Expire}
use Rattle.sts_trace.specs.declared.outside.Due.{Due}

-- a word, one space, and the number of the task or scope
abbrev pub event_text : Event → List ℕ
event_text (Step n) = codes "step " ++ decimal n
event_text (Interrupt n) = codes "interrupt " ++ decimal n
event_text (Expire n) = codes "expire " ++ decimal n

-- each event on a line of its own
abbrev pub trace_text : List Event → List ℕ
trace_text events = flat_map (λ e. event_text e ++ codes "\n") events

-- `at`, when the event is due, and the event
abbrev pub due_text : Due → List ℕ
due_text due = codes "at " ++ decimal due.at ++ codes " " ++ event_text due.event

-- each outside event on a line of its own
abbrev pub outside_text : List Due → List ℕ
outside_text dues = flat_map (λ due. due_text due ++ codes "\n") dues

-- the number of the task or scope
abbrev pub number_of : Event → ℕ
number_of (Step n) = n
number_of (Interrupt n) = n
number_of (Expire n) = n

-- may it come from outside? A step may not
abbrev pub is_outside : Event → Bool
is_outside (Step n) = false
is_outside (Interrupt n) = true
is_outside (Expire n) = true

-- an event's number has 32 bits
abbrev pub IsEvent : Event → Type 0
IsEvent e = number_of e < 2 ^ 32

-- an interrupt or an expiry, and its numbers have 32 bits
abbrev pub IsDue : Due → Type 0
IsDue due = (due.at < 2 ^ 32) × IsEvent due.event × IsTrue (is_outside due.event)

-- no more outside events than a run takes
abbrev pub AreDues : List Due → Type 0
AreDues dues = (length dues ≤ MAX_OUTSIDE) × All IsDue dues
