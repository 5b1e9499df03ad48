-- The lines of a machine after a list of events, and after each of them, as JSON (this project's
-- own; docs/IMPLEMENTERS.md has the schema).
use Rattle.std.specs.Prelude.{ℕ, Bool, List, [], ◌∷◌, ◌++◌, codes, if◌then◌else◌}
use Rattle.serde_json.specs.Data.{Data, array, boolean, string}
use Rattle.serde_json.specs.View.{items_of}
use Rattle.serde_json.specs.Written.{compact_text}
use Rattle.sts_code.specs.Program.{Program}
use Rattle.sts_model.specs.declared.event.End.{End}
use Rattle.sts_model.specs.declared.event.End.TheVariants.{Success, Failed}
use Rattle.sts_model.specs.World.{World}
use Rattle.sts_asm.specs.Fault.{code_error}
use Rattle.sts_asm.specs.declared.fault.AsmError.{AsmError}
use Rattle.sts_plain.specs.Seen.{shown}
use Rattle.sts_plain.specs.declared.misstep.PlainState.{PlainState}
use Rattle.sts_plain.specs.declared.misstep.PlainState.TheVariants as plain
use Rattle.sts_trace.specs.Spelling.{event_text}
use Rattle.sts_trace.specs.declared.error.TraceError.{TraceError}
use Rattle.sts_output.specs.Output.{Output}
use Rattle.look_lines.specs.Form.{Form, IsShownOf}
use Rattle.look_lines.specs.Lines.{closed, resting}
use Rattle.look_lines.specs.Views.{View, view_output}
use Rattle.look_lines.specs.Watched.{Watched}
use Rattle.look_options.specs.declared.views.ViewOptions.{ViewOptions}
use Rattle.look_lines.specs.declared.watch.Applied.{Applied}
use Rattle.look_cases.specs.Answer.{ended, fault, running, text_fault, trace_fault}
use Rattle.look_cases.specs.Json.{count, object_of}
use Rattle.look_names.specs.Names.{value_name}
use Rattle.look_views.specs.Named.{named, placed}
use Rattle.look_views.specs.Scope.{open_scopes, scopes}
use Rattle.look_views.specs.Task.{living_tasks, tasks}

abbrev pub version : Data
version = count 1

-- ---- a view

-- how a run ended, the steps that it took, and the name of its value or code
abbrev pub named_end : List ℕ → End → ℕ → Data
named_end text (Success v) steps = named (codes "name") (value_name text v) (ended (Success v) steps)
named_end text (Failed c) steps = named (codes "name") (value_name text c) (ended (Failed c) steps)

-- the state of a run, and the steps that it took
abbrev pub run : List ℕ → Program → PlainState → ℕ → Data
run text p plain.Running steps = running steps
run text p (plain.Ended end) steps = named_end text end steps
run text p (plain.Fault kind task f pc) steps =
    placed text f pc (fault p kind task f pc steps)

-- the state of a machine; after a fault its tasks and scopes are shown as before it
abbrev pub stand_members : List ℕ → Bool → Watched → List (List ℕ × Data)
stand_members text full m =
    (codes "run", run text m.program (shown m.state) m.steps) ∷
    (codes "scopes", array (items_of (scopes text full m.last m.last.scopes 0))) ∷
    (codes "tasks", array (items_of (tasks text m.program full m.last m.last.tasks 0))) ∷
    (codes "version", version) ∷ []

-- how many tasks don't live, and how many scopes are closed
abbrev pub not_shown : World → Data
not_shown w = object_of (
    (codes "scopes", count (closed w.scopes)) ∷
    (codes "tasks", count (resting w.tasks)) ∷ [])

-- like `stand_members`, with only the tasks that live and the scopes that are open
abbrev pub living_members : List ℕ → Bool → Watched → List (List ℕ × Data)
living_members text full m =
    (codes "not_shown", not_shown m.last) ∷
    (codes "run", run text m.program (shown m.state) m.steps) ∷
    (codes "scopes", array (items_of (open_scopes text full m.last m.last.scopes 0))) ∷ (
      codes "tasks",
      array (items_of (living_tasks text m.program full m.last m.last.tasks 0)),
    ) ∷
    (codes "version", version) ∷ []

-- the state after this number of events
abbrev pub whole_state : List ℕ → Bool → ℕ → Watched → Data
whole_state text full n m = object_of ((codes "after", count n) ∷ stand_members text full m)

abbrev pub living_state : List ℕ → Bool → ℕ → Watched → Data
living_state text full n m = object_of ((codes "after", count n) ∷ living_members text full m)

abbrev pub state_view : List ℕ → ViewOptions → ℕ → Watched → Data
state_view text wanted n m =
    if wanted.living then living_state text wanted.full n m else whole_state text wanted.full n m

-- an event and the state after it
abbrev pub whole_event : List ℕ → Bool → Applied → Watched → Data
whole_event text full a m = object_of (
    (codes "after", count a.number) ∷
    (codes "counts", boolean a.is_counted) ∷
    (codes "event", string (event_text a.event)) ∷ stand_members text full m)

abbrev pub living_event : List ℕ → Bool → Applied → Watched → Data
living_event text full a m = object_of (
    (codes "after", count a.number) ∷
    (codes "counts", boolean a.is_counted) ∷
    (codes "event", string (event_text a.event)) ∷ living_members text full m)

abbrev pub event_view : List ℕ → ViewOptions → Applied → Watched → Data
event_view text wanted a m =
    if wanted.living then living_event text wanted.full a m else whole_event text wanted.full a m

-- ---- the lines

-- compact JSON and a newline
abbrev pub line : Data → List ℕ
line d = compact_text d ++ 10 ∷ []

abbrev pub json_view : List ℕ → ViewOptions → View
json_view text wanted = record {
  state = λ n m. line (state_view text wanted n m);
  event = λ a m. line (event_view text wanted a m);
}

-- ---- of a text and a trace

abbrev pub faulty : Data → Output
faulty d = record { bytes = line d; status = 3 }

abbrev pub text_line : AsmError → Data
text_line e = object_of (
    (codes "text_fault", text_fault e (code_error e.kind)) ∷
    (codes "version", version) ∷ [])

abbrev pub trace_line : TraceError → Data
trace_line e = object_of (
    (codes "trace_fault", trace_fault e) ∷
    (codes "version", version) ∷ [])

abbrev pub json_form : List ℕ → ViewOptions → Form
json_form text wanted = record {
  of_run = λ p events. view_output (json_view text wanted) wanted.each p events;
  of_text_fault = λ e. faulty (text_line e);
  of_trace_fault = λ e. faulty (trace_line e);
}

-- what `look view --json` prints for a text and a trace, or that memory was refused
abbrev pub AreViewsOf : ViewOptions → List ℕ → List ℕ → Output → Type 0
AreViewsOf wanted text trace output = IsShownOf (json_form text wanted) text trace output
