-- What is shown of a text and a trace, in any form (this project's own).
use Rattle.std.specs.Prelude.{◌≡◌, ◌⊎◌, ℕ, List, Result, Ok, Err}
use Rattle.sts_code.specs.Program.{Program}
use Rattle.sts_model.specs.declared.event.Event.{Event}
use Rattle.sts_asm.specs.Text.{judged}
use Rattle.sts_asm.specs.declared.fault.AsmError.{AsmError}
use Rattle.sts_trace.specs.Reading.{trace_read}
use Rattle.sts_trace.specs.declared.error.TraceError.{TraceError}
use Rattle.sts_output.specs.Output.{Output, memory_output, text_fault_output, trace_fault_output}

-- an output for each run of a program, for each fault of a text and for each fault of a trace
pub record Form : Type 0 where
  pub of_run : Program → List Event → Output
  pub of_text_fault : AsmError → Output
  pub of_trace_fault : TraceError → Output

-- a form that tells faults as `sts plain` does
abbrev pub plain_form : (Program → List Event → Output) → Form
plain_form of_run = record {
  of_run = of_run;
  of_text_fault = text_fault_output;
  of_trace_fault = trace_fault_output;
}

abbrev pub traced_output : Form → Program → Result (List Event) TraceError → Output
traced_output form p (Ok events) = form.of_run p events
traced_output form p (Err e) = form.of_trace_fault e

-- a fault of the text comes before one of the trace
abbrev pub text_output : Form → Result Program AsmError → List ℕ → Output
text_output form (Ok p) trace = traced_output form p (trace_read trace)
text_output form (Err e) trace = form.of_text_fault e

-- what is shown of a text and a trace, or that memory ran out
abbrev pub IsShownOf : Form → List ℕ → List ℕ → Output → Type 0
IsShownOf form text trace output =
    (output ≡ text_output form (judged text) trace) ⊎ (output ≡ memory_output)
