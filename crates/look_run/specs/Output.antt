-- The output for a text and a trace, and the status that goes with it (this project's own).
use Rattle.std.specs.Prelude.{◌≡◌, ◌⊎◌, ℕ, List, ◌++◌, Result, Ok, Err}
use Rattle.sts_code.specs.Program.{Program}
use Rattle.sts_model.specs.declared.event.Event.{Event}
use Rattle.sts_asm.specs.Text.{judged}
use Rattle.sts_asm.specs.declared.fault.AsmError.{AsmError}
use Rattle.sts_plain.specs.Seen.{shown}
use Rattle.sts_trace.specs.Reading.{trace_read}
use Rattle.sts_trace.specs.declared.error.TraceError.{TraceError}
use Rattle.sts_output.specs.Output.{Output, memory_output, state_status}
use Rattle.look_refusal.specs.Output.{fault_output}
use Rattle.look_lines.specs.Watched.{Watched, watched}
use Rattle.look_run.specs.Lines.{living_lines, state_lines, trace_fault_lines}

-- the state of the machine, then each task that lives; after a fault they are shown as before it
abbrev pub run_lines : List ℕ → Watched → List ℕ
run_lines text m =
    state_lines text m.program m.last (shown m.state)
    ++ living_lines text m.program m.last m.last.tasks 0

-- the status is that of the state: 0 if the root succeeded, 1 if it failed, otherwise 5
abbrev pub watched_output : List ℕ → Watched → Output
watched_output text m = record { bytes = run_lines text m; status = state_status (shown m.state) }

abbrev pub trace_fault_output : List ℕ → TraceError → Output
trace_fault_output text e = record { bytes = trace_fault_lines text e; status = 3 }

-- the output for the events that a trace spells, or for its first fault
abbrev pub traced_output : Program → List ℕ → List ℕ → Result (List Event) TraceError → Output
traced_output p text trace (Ok events) = watched_output text (watched p events)
traced_output p text trace (Err e) = trace_fault_output trace e

-- a fault of the text comes before one of the trace; no verdict is asked for
abbrev pub Explains : Result Program AsmError → List ℕ → List ℕ → Output → Type 0
Explains (Ok p) text trace output = output ≡ traced_output p text trace (trace_read trace)
Explains (Err e) text trace output = output ≡ fault_output e text

-- the explanation of a run of a text, or that memory ran out
abbrev pub IsRunExplanation : List ℕ → List ℕ → Output → Type 0
IsRunExplanation text trace output =
    Explains (judged text) text trace output ⊎ (output ≡ memory_output)
