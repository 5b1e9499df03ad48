-- The story of a run as lines of JSON (this project's own; docs/IMPLEMENTERS.md has the schema).
use Rattle.std.specs.Prelude.{◌≡◌, ◌≢◌, ◌⊎◌, ℕ, ◌-◌, ◌==◌, List, [], ◌∷◌, codes, slice_get}
use Rattle.std.specs.Prelude.{Option, Some, None, Result, Ok, Err, if◌then◌else◌}
use Rattle.std.specs.List.{after_first, before_first, flat_map}
use Rattle.serde_json.specs.Data.{Data, string}
use Rattle.sts_code.specs.Program.{Program}
use Rattle.sts_model.specs.declared.event.Event.{Event}
use Rattle.sts_text.specs.Number.{digits_up_to}
use Rattle.sts_text.specs.Words.{is_space, lines}
use Rattle.sts_asm.specs.Text.{judged}
use Rattle.sts_asm.specs.declared.fault.AsmError.{AsmError}
use Rattle.sts_trace.specs.Reading.{trace_read}
use Rattle.sts_trace.specs.Spelling.{event_text}
use Rattle.sts_trace.specs.declared.error.TraceError.{TraceError}
use Rattle.sts_output.specs.Output.{Output, memory_output}
use Rattle.look_cases.specs.Answer.{version}
use Rattle.look_cases.specs.Json.{count, object_of}
use Rattle.look_tell.specs.Telling.{IsStoryOf}
use Rattle.look_options.specs.declared.stories.TellOptions.{TellOptions}
use Rattle.look_views.specs.Views.{faulty, line, text_line, trace_line}

-- ---- a line

-- words about no event, such as the end of a task
abbrev pub alone : List ℕ → Data
alone words = object_of (
    (codes "tells", string words) ∷
    (codes "version", version) ∷ [])

-- words about the event of this number
abbrev pub told_of : ℕ → Event → List ℕ → Data
told_of n e words = object_of (
    (codes "after", count n) ∷
    (codes "event", string (event_text e)) ∷
    (codes "tells", string words) ∷
    (codes "version", version) ∷ [])

-- the event of a number, the first one having number 1
abbrev pub event_at : List Event → ℕ → Option Event
event_at events n = if n == 0 then None else slice_get events (n - 1)

abbrev pub told_by : Option Event → ℕ → List ℕ → List ℕ → Data
told_by None n words line = alone line
told_by (Some e) n words line = told_of n e words

abbrev pub numbered : List Event → Option ℕ → List ℕ → List ℕ → Data
numbered events None words line = alone line
numbered events (Some n) words line = told_by (event_at events n) n words line

-- a line of a story begins with the number of its event, unless it is about none
abbrev pub told : List Event → List ℕ → Data
told events line =
    numbered events (digits_up_to 4294967295 (before_first is_space line))
    (after_first is_space line) line

-- an empty line has none
abbrev pub story_line : List Event → List ℕ → List ℕ
story_line events [] = []
story_line events (b ∷ bs) = line (told events (b ∷ bs))

abbrev pub story_lines : List Event → List (List ℕ) → List ℕ
story_lines events told = flat_map (story_line events) told

-- ---- a text and a trace

-- the lines of a story, each as JSON
pub record IsStory (o : TellOptions) (text trace : List ℕ) (events : List Event)
    (output : Output) : Type 0 where
  pub story : Output
  pub words : IsStoryOf o text trace story
  pub whole : story.status ≢ 6
  pub printed : output ≡ record {
    bytes = story_lines events (lines story.bytes);
    status = story.status;
  }

abbrev pub TellsTrace : TellOptions → List ℕ → List ℕ → Result (List Event) TraceError → Output
    → Type 0
TellsTrace o text trace (Ok events) output = IsStory o text trace events output
TellsTrace o text trace (Err e) output = output ≡ faulty (trace_line e)

abbrev pub Tells : TellOptions → Result Program AsmError → List ℕ → List ℕ → Output → Type 0
Tells o (Ok p) text trace output = TellsTrace o text trace (trace_read trace) output
Tells o (Err e) text trace output = output ≡ faulty (text_line e)

-- what `look tell --json` prints for a text and a trace, or that memory ran out
abbrev pub AreStoriesOf : TellOptions → List ℕ → List ℕ → Output → Type 0
AreStoriesOf o text trace output = Tells o (judged text) text trace output ⊎ (output ≡ memory_output)
