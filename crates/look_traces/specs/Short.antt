-- Traces in the short form: words, each of which means several events (this project's own).
use Rattle.std.specs.Prelude.{ℕ, ◌+◌, ◌-◌, ◌*◌, ◌==◌, List, [], ◌∷◌, ◌++◌, length, drop, replicate, nat_le}
use Rattle.std.specs.Prelude.{slice_index, Bool, Option, Some, None, option_map, option_and_then}
use Rattle.std.specs.Prelude.{if◌then◌else◌, unwrap_or}
use Rattle.std.specs.List.{after_first, before_first, flat_map, range_with_len}
use Rattle.sts_model.specs.declared.event.Event.{Event}
use Rattle.sts_model.specs.declared.event.Event.TheVariants as event
use Rattle.sts_text.specs.Number.{numeral}
use Rattle.sts_text.specs.Words.{lines, words}
use Rattle.sts_trace.specs.Spelling.{trace_text}
use Rattle.look_traces.specs.declared.part.Part.{Part}
use Rattle.look_traces.specs.declared.part.Part.TheVariants.{Steps, Interrupt, Expire}
use Rattle.look_traces.specs.declared.part.TheConstants.{MOST_EVENTS}

-- ---- a word

abbrev pub is_star : ℕ → Bool
is_star b = b == 42

abbrev pub is_dot : ℕ → Bool
is_dot b = b == 46

-- the task after one more dot, or the same task if there are no dots
abbrev pub last_of : ℕ → List ℕ → Option ℕ
last_of first [] = Some first
last_of first (b ∷ bytes) = if is_dot b then numeral bytes else None

-- steps of the tasks `1..3`, or of a single task
abbrev pub steps_of : List ℕ → List ℕ → Option Part
steps_of tasks times =
    option_and_then (λ first. option_and_then (λ last. option_map (λ n. Steps first last n)
    (numeral times)) (last_of first (after_first is_dot tasks)))
    (numeral (before_first is_dot tasks))

-- `0*5`, `1..3*2`, `i0` or `x0`
abbrev pub part_of : List ℕ → Option Part
part_of word =
    if slice_index word 0 == 105 then option_map Interrupt (numeral (drop 1 word))
    else (if slice_index word 0 == 120 then option_map Expire (numeral (drop 1 word))
    else steps_of (before_first is_star word) (after_first is_star word))

-- how many events a word means
abbrev pub size_of : Part → ℕ
size_of (Steps first last n) = (last + 1 - first) * n
size_of (Interrupt t) = 1
size_of (Expire s) = 1

-- each task from a first to a last takes n steps
abbrev pub events_of : Part → List Event
events_of (Steps first last n) =
    flat_map (λ t. replicate n (event.Step t)) (range_with_len first (last + 1 - first))
events_of (Interrupt t) = event.Interrupt t ∷ []
events_of (Expire s) = event.Expire s ∷ []

-- ---- a text

-- the events of one word more, if there are not too many then
abbrev pub with_part : List Event → Part → Option (List Event)
with_part done part =
    if nat_le (length done + size_of part) MOST_EVENTS then Some (done ++ events_of part) else None

abbrev pub with_word : List Event → List ℕ → Option (List Event)
with_word done word = option_and_then (λ part. with_part done part) (part_of word)

-- the events so far, and those that these words mean
abbrev pub events_from : List Event → List (List ℕ) → Option (List Event)
events_from done [] = Some done
events_from done (word ∷ more) =
    option_and_then (λ next. events_from next more) (with_word done word)

-- the words of all lines
abbrev pub all_words : List ℕ → List (List ℕ)
all_words text = flat_map words (lines text)

-- the events of one word or more
abbrev pub events_if : List (List ℕ) → Option (List Event)
events_if [] = None
events_if (word ∷ more) = events_from [] (word ∷ more)

-- the events of a text in the short form
abbrev pub short_read : List ℕ → Option (List Event)
short_read text = events_if (all_words text)

-- a trace in the short form, written in full
abbrev pub in_full : List ℕ → Option (List ℕ)
in_full text = option_map trace_text (short_read text)

-- the same text, if it isn't in the short form
abbrev pub full_trace : List ℕ → List ℕ
full_trace text = unwrap_or (in_full text) text
