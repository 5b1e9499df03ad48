-- The words of an event: its line in the story of the run (this project's own).
use Rattle.std.specs.Prelude.{ℕ, ◌-◌, Bool, false, not, List, length, take}
use Rattle.sts_model.specs.declared.event.Event.{Event}
use Rattle.look_options.specs.declared.stories.TellOptions.{TellOptions}
use Rattle.look_tell.specs.Line.{event_block}
use Rattle.look_tell.specs.Story.{Story}
use Rattle.look_drawing.specs.Writing.{escaped}

-- which events have lines: each one, or in a brief picture those that `look tell` lists
abbrev pub listed : Bool → TellOptions
listed brief = record { each = not brief; strict = false; first = 1; last = 4294967295 }

-- the line that `look tell` has for an event, and a second one if its task waits then
unfoldable pub lines : List ℕ → Bool → ℕ → Story → Event → List ℕ
lines text brief n s e = event_block text (listed brief) n s e

abbrev pub but_last : List ℕ → List ℕ
but_last bytes = take (length bytes - 1) bytes

-- the same as words of a picture, without the newline at the end
unfoldable pub event_words : List ℕ → Bool → ℕ → Story → Event → List ℕ
event_words text brief n s e = escaped (but_last (lines text brief n s e))
