-- The lines of a machine after a list of events, and after each of them (this project's own).
use Rattle.std.specs.Prelude.{ℕ, not, List, ◌++◌, codes}
use Rattle.std.specs.Fmt.{decimal}
use Rattle.sts_code.specs.Program.{Program}
use Rattle.sts_model.specs.declared.event.Event.{Event}
use Rattle.sts_plain.specs.Seen.{shown}
use Rattle.sts_trace.specs.Spelling.{event_text}
use Rattle.sts_output.specs.Output.{Output}
use Rattle.sts_output.specs.Printed.{steps_line, ended}
use Rattle.look_lines.specs.Form.{Form, IsShownOf, plain_form}
use Rattle.look_lines.specs.Lines.{only_if, others, scope_lines, task_lines}
use Rattle.look_lines.specs.Naming.{Naming, plain}
use Rattle.look_lines.specs.Views.{View, view_output}
use Rattle.look_lines.specs.Watched.{Watched}
use Rattle.look_options.specs.declared.views.ViewOptions.{ViewOptions}
use Rattle.look_lines.specs.declared.watch.Applied.{Applied}

-- the state of the machine and the steps that it took
abbrev pub run_lines : Naming → Watched → List ℕ
run_lines n m = n.state m.program (shown m.state) ++ steps_line m.steps

-- each task and each scope that is wanted, and how many others there are; after a fault they are
-- shown as before it
abbrev pub stand_lines : Naming → ViewOptions → Watched → List ℕ
stand_lines n wanted m =
    task_lines n m.program wanted m.last m.last.tasks 0
    ++ (scope_lines n wanted m.last m.last.scopes 0 ++ others wanted m.last)

abbrev pub state_lines : Naming → ViewOptions → Watched → List ℕ
state_lines n wanted m = run_lines n m ++ stand_lines n wanted m

-- the same without lines and names of a text
abbrev pub view_lines : ViewOptions → Watched → List ℕ
view_lines wanted m = state_lines plain wanted m

-- `after N EVENT` for the N-th event; `idle` if it doesn't count
abbrev pub event_line : Applied → List ℕ
event_line a =
    codes "after " ++ decimal a.number ++ codes " " ++ event_text a.event
    ++ ended (only_if (not a.is_counted) (codes " idle"))

-- an event and the state after it
abbrev pub event_block : Naming → ViewOptions → Applied → Watched → List ℕ
event_block n wanted a m = event_line a ++ state_lines n wanted m

abbrev pub lines_view : Naming → ViewOptions → View
lines_view n wanted =
    record { state = λ number m. state_lines n wanted m; event = event_block n wanted }

abbrev pub lines_output : Naming → ViewOptions → Program → List Event → Output
lines_output n wanted p events = view_output (lines_view n wanted) wanted.each p events

abbrev pub lines_form : Naming → ViewOptions → Form
lines_form n wanted = plain_form (lines_output n wanted)

-- what is shown of a text and a trace without the names of the text, or that memory ran out
abbrev pub IsViewOf : ViewOptions → List ℕ → List ℕ → Output → Type 0
IsViewOf wanted text trace output = IsShownOf (lines_form plain wanted) text trace output
