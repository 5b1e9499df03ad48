-- The output of the program and its status, for each mode (this project's own).
use Rattle.std.specs.Prelude.{◌≡◌, ◌⊎◌, ◌↔◌, ℕ, List, ◌++◌, ◌<◌, length, Option, Result, Ok, Err}
use Rattle.std.specs.Io.KnownBytes.{Appends}
use Rattle.sts_code.specs.Program.{Program}
use Rattle.sts_model.specs.declared.event.Event.{Event}
use Rattle.sts_model.specs.declared.event.End.{End}
use Rattle.sts_model.specs.declared.event.End.TheVariants.{Success, Failed}
use Rattle.sts_rules.specs.Budget.{budget_at}
use Rattle.sts_rules.specs.Refusal.{IsAccepted, IsRefusal, IsBudgetOf}
use Rattle.sts_model.specs.Run.{after, taken}
use Rattle.sts_rules.specs.declared.budget.Budgets.{Budgets}
use Rattle.sts_rules.specs.declared.typing.Cause.{Cause}
use Rattle.sts_asm.specs.Fault.{code_error}
use Rattle.sts_asm.specs.Text.{judged}
use Rattle.sts_asm.specs.declared.fault.AsmError.{AsmError}
use Rattle.sts_list.specs.Listing.{listing}
use Rattle.sts_plain.specs.Seen.{shown}
use Rattle.sts_plain.specs.declared.misstep.PlainState.{PlainState}
use Rattle.sts_plain.specs.declared.misstep.PlainState.TheVariants as plain
use Rattle.sts_trace.specs.Reading.{trace_read}
use Rattle.sts_trace.specs.declared.error.TraceError.{TraceError}
use Rattle.sts_output.specs.declared.mode.Mode.{Mode}
use Rattle.sts_output.specs.declared.mode.Mode.TheVariants as mode
use Rattle.sts_output.specs.declared.taking.TakeError.{TakeError}
use Rattle.sts_output.specs.declared.taking.TakeError.TheVariants as take_error
use Rattle.sts_output.specs.Printed.{text_fault_line, trace_fault_line, state_line, steps_line}
use Rattle.sts_output.specs.Printed.{memory_line, file_line, refused_line, accepted_lines}

-- the bytes that are printed, and the exit status
pub record Output : Type 0 where
  pub bytes : List ℕ
  pub status : ℕ

-- 0 if the root succeeded, 1 if it failed, 5 if it runs or the machine has faulted
abbrev pub end_status : End → ℕ
end_status (Success v) = 0
end_status (Failed c) = 1

abbrev pub state_status : PlainState → ℕ
state_status (plain.Ended end) = end_status end
state_status _ = 5

abbrev pub state_output : Program → PlainState → ℕ → Output
state_output p state steps = record {
  bytes = state_line p state
      ++ steps_line steps;
  status = state_status state;
}

-- the state of the machine after the events, and the steps that it took
abbrev pub run_output : Program → List Event → Output
run_output p events = state_output p (shown (after p events)) (taken p events)

abbrev pub text_fault_output : AsmError → Output
text_fault_output e = record { bytes = text_fault_line e (code_error e.kind); status = 3 }

abbrev pub trace_fault_output : TraceError → Output
trace_fault_output e = record { bytes = trace_fault_line e; status = 3 }

abbrev pub memory_output : Output
memory_output = record { bytes = memory_line; status = 6 }

abbrev pub file_output : Output
file_output = record { bytes = file_line; status = 6 }

-- the output if the bytes of a file or a stream could not be read
abbrev pub failure_output : TakeError → Output
failure_output take_error.Memory = memory_output
failure_output take_error.Read = file_output

-- ---- mode plain

abbrev pub traced_output : Program → Result (List Event) TraceError → Output
traced_output p (Ok events) = run_output p events
traced_output p (Err e) = trace_fault_output e

abbrev pub plain_output : Result Program AsmError → List ℕ → Output
plain_output (Ok p) trace = traced_output p (trace_read trace)
plain_output (Err e) trace = text_fault_output e

-- ---- mode list

abbrev pub list_output : Result Program AsmError → Output
list_output (Ok p) = record { bytes = listing p; status = 0 }
list_output (Err e) = text_fault_output e

-- ---- refusals

abbrev pub refused_output : Program → ℕ → ℕ → Cause → Output
refused_output p f pc c = record { bytes = refused_line p f pc c; status = 4 }

-- the output for a refused program: it names the first place with a cause, and one cause there
pub record IsRefused (p : Program) (output : Output) : Type 0 where
  pub function : ℕ
  pub place : ℕ
  pub cause : Cause
  pub refusal : IsRefusal p function place cause
  pub printed : output ≡ refused_output p function place cause

-- ---- mode verify

abbrev pub accepted_output : Program → List Budgets → Output
accepted_output p budgets = record { bytes = accepted_lines p.routines budgets; status = 0 }

-- the budgets of the functions, one for each, in order
pub record AreTold (p : Program) (budgets : List Budgets) : Type 0 where
  pub count : length budgets ≡ length p.routines
  pub each : (f : ℕ) → f < length budgets → IsBudgetOf p f (budget_at budgets f)

-- the lines of the budgets of an accepted program
pub record AreLines (p : Program) (bytes : List ℕ) : Type 0 where
  pub accepted : IsAccepted p
  pub budgets : List Budgets
  pub told : AreTold p budgets
  pub printed : bytes ≡ accepted_lines p.routines budgets

-- the output for an accepted program, or for a refused one
pub data IsVerdict (p : Program) (output : Output) : Type 0 where
  accepted : IsAccepted p → (budgets : List Budgets) → AreTold p budgets
      → output ≡ accepted_output p budgets → IsVerdict p output
  refused : IsRefused p output → IsVerdict p output

abbrev pub VerifyShows : Result Program AsmError → Output → Type 0
VerifyShows (Ok p) output = IsVerdict p output
VerifyShows (Err e) output = output ≡ text_fault_output e

-- ---- mode replay

-- the output for an accepted program after these events, or for a refused one
pub data IsReplay (p : Program) (events : List Event) (output : Output) : Type 0 where
  accepted : IsAccepted p → output ≡ run_output p events → IsReplay p events output
  refused : IsRefused p output → IsReplay p events output

-- a fault of the trace comes before the verdict
abbrev pub TracedShows : Program → Result (List Event) TraceError → Output → Type 0
TracedShows p (Ok events) output = IsReplay p events output
TracedShows p (Err e) output = output ≡ trace_fault_output e

abbrev pub ReplayShows : Result Program AsmError → List ℕ → Output → Type 0
ReplayShows (Ok p) trace output = TracedShows p (trace_read trace) output
ReplayShows (Err e) trace output = output ≡ text_fault_output e

-- ---- all modes

-- what is printed in a mode
abbrev pub Shows : Mode → List ℕ → List ℕ → Output → Type 0
Shows mode.Plain text trace output = output ≡ plain_output (judged text) trace
Shows mode.Replay text trace output = ReplayShows (judged text) trace output
Shows mode.List text trace output = output ≡ list_output (judged text)
Shows mode.Verify text trace output = VerifyShows (judged text) output

-- modes `plain` and `replay` print the same for this program, whatever the trace
abbrev pub PrintsAlike : Program → Type 0
PrintsAlike p = (text trace : List ℕ) (output : Output) → judged text ≡ Ok p
    → Shows mode.Replay text trace output ↔ Shows mode.Plain text trace output

-- the output of the mode, or that memory ran out
abbrev pub IsOutputOf : Mode → List ℕ → List ℕ → Output → Type 0
IsOutputOf mode text trace output = Shows mode text trace output ⊎ (output ≡ memory_output)

-- all of an output is written to a stream, and the status is its own
abbrev pub Writes : Option (List ℕ) → Option (List ℕ) → ℕ → Output → Type 0
Writes old new status output = (status ≡ output.status) × Appends old new output.bytes
