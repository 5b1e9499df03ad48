-- The ends of a text as lines of JSON (this project's own; docs/IMPLEMENTERS.md has the schema).
use Rattle.std.specs.Prelude.{ℕ, ◌+◌, List, [], ◌∷◌, ◌++◌, Bool, false, length, Option, codes}
use Rattle.serde_json.specs.Data.{Data, boolean, string}
use Rattle.sts_code.specs.Program.{Program, routine}
use Rattle.sts_model.specs.declared.event.Fault.{Fault}
use Rattle.sts_output.specs.Printed.{fault_word}
use Rattle.sts_plain.specs.declared.misstep.PlainState.{PlainState}
use Rattle.sts_plain.specs.declared.misstep.PlainState.TheVariants as plain
use Rattle.ends_plain.specs.declared.config.Found.{Found}
use Rattle.ends_plain.specs.declared.config.Setting.{Setting}
use Rattle.look_cases.specs.Answer.{version}
use Rattle.look_cases.specs.Json.{count, count_or_null, object_of}
use Rattle.look_views.specs.Named.{line_at, placed}
use Rattle.look_views.specs.Views.{faulty, line, text_line}
use Rattle.look_end_lines.specs.Form.{EndsForm}
use Rattle.look_end_lines.specs.Lines.{times_at}
use Rattle.look_ends_json.specs.Calls.{calls_lines}
use Rattle.look_ends_json.specs.Outcome.{ended, missing}

-- ---- how a run ended

abbrev pub faulted : List ℕ → Program → Fault → ℕ → ℕ → ℕ → Data
faulted text p kind t f pc = object_of (
    (codes "fault", string (fault_word kind)) ∷
    (codes "function", string (routine p f).name) ∷
    (codes "line", count_or_null (line_at text f pc)) ∷
    (codes "outcome", string (codes "fault")) ∷
    (codes "place", count pc) ∷
    (codes "task", count t) ∷ [])

-- a fault comes with the names of its function and its line
abbrev pub run : List ℕ → Program → PlainState → Data
run text p plain.Running = object_of ((codes "outcome", string (codes "running")) ∷ [])
run text p (plain.Ended end) = ended text end
run text p (plain.Fault kind t f pc) = placed text f pc (faulted text p kind t f pc)

-- ---- an end

-- the end at a place, which has the next number, and the length of its trace
abbrev pub found_end : List ℕ → Program → ℕ → Found → Data
found_end text p place f = object_of (
    (codes "after", count (length f.trace)) ∷
    (codes "end", count (place + 1)) ∷
    (codes "run", run text p f.end) ∷
    (codes "version", version) ∷ [])

-- the lines of these ends, the first of which is at this place
abbrev pub found_lines : List ℕ → Program → List Found → ℕ → List ℕ
found_lines text p [] place = []
found_lines text p (f ∷ fs) place =
    line (found_end text p place f) ++ found_lines text p fs (place + 1)

-- the same, and how often random schedules came to it
abbrev pub sampled_end : List ℕ → Program → ℕ → Found → ℕ → Data
sampled_end text p place f times = object_of (
    (codes "after", count (length f.trace)) ∷
    (codes "end", count (place + 1)) ∷
    (codes "run", run text p f.end) ∷
    (codes "times", count times) ∷
    (codes "version", version) ∷ [])

abbrev pub sampled_lines : List ℕ → Program → List Found → List ℕ → ℕ → List ℕ
sampled_lines text p [] times place = []
sampled_lines text p (f ∷ fs) times place =
    line (sampled_end text p place f (times_at times place))
    ++ sampled_lines text p fs times (place + 1)

-- ---- the last line

abbrev pub search : Bool → ℕ → Bool → Option ℕ → Option ℕ → Data
search is_refused states whole by_calls no_end = object_of (
    (codes "all_schedules", boolean whole) ∷
    (codes "by_calls", count_or_null by_calls) ∷
    (codes "no_end", count_or_null no_end) ∷
    (codes "refused", boolean is_refused) ∷
    (codes "states", count states) ∷
    (codes "version", version) ∷ [])

abbrev pub sample : ℕ → ℕ → ℕ → Option ℕ → Data
sample schedules seed unfinished no_end = object_of (
    (codes "all_schedules", boolean false) ∷
    (codes "cut_off", count unfinished) ∷
    (codes "no_end", count_or_null no_end) ∷
    (codes "schedules", count schedules) ∷
    (codes "seed", count seed) ∷
    (codes "version", version) ∷ [])

-- ---- the form

abbrev pub search_lines : List ℕ → Setting → Bool → Option ℕ → List Found → ℕ → Bool → Option ℕ
    → List ℕ
search_lines text g is_refused number found states whole by_calls =
    found_lines text g.program found 0
    ++ line (search is_refused states whole by_calls (missing number found))

abbrev pub sample_lines : List ℕ → Program → ℕ → ℕ → Option ℕ → List Found → List ℕ → ℕ → List ℕ
sample_lines text p schedules seed number found times unfinished =
    sampled_lines text p found times 0
    ++ line (sample schedules seed unfinished (missing number found))

abbrev pub json_form : EndsForm
json_form = record {
  of_search = search_lines;
  of_sample = sample_lines;
  of_calls = calls_lines;
  of_text_fault = λ e text. faulty (text_line e);
}
