-- The outcome of `run`: its output, and the journal that its trace spells (this project's own).
use Rattle.std.specs.Prelude.{◌≡◌, ◌⊎◌, ℕ, List, [], ◌++◌, Result, Ok, Err, Bool, true, Option}
use Rattle.sts_code.specs.Program.{Program}
use Rattle.sts_model.specs.Run.{taken}
use Rattle.sts_model.specs.declared.event.End.{End}
use Rattle.sts_model.specs.declared.event.Event.{Event}
use Rattle.sts_rules.specs.Refusal.{IsAccepted}
use Rattle.sts_asm.specs.Text.{judged}
use Rattle.sts_asm.specs.declared.fault.AsmError.{AsmError}
use Rattle.sts_trace.specs.Reading.{outside_read}
use Rattle.sts_trace.specs.declared.error.TraceError.{TraceError}
use Rattle.sts_trace.specs.declared.outside.Due.{Due}
use Rattle.sts_pool.specs.Report.{IsReport}
use Rattle.sts_pool.specs.declared.report.PoolError.{PoolError}
use Rattle.sts_pool.specs.declared.report.PoolError.TheVariants as pool
use Rattle.sts_output.specs.Output.{AreLines, IsRefused, Output, end_status}
use Rattle.sts_output.specs.Output.{memory_output, text_fault_output, trace_fault_output}
use Rattle.sts_output.specs.Streams.{Written, WritesBoth}
use Rattle.sts_output.specs.Printed.{end_line, steps_line, threads_line, unfinished_line}
use Rattle.sts_cli.specs.Dues.{AreGiven}

-- ---- what comes of a run

-- what is printed, and the events of the trace
pub record Outcome : Type 0 where
  pub output : Output
  pub journal : List Event

-- this output, and no trace
abbrev pub alone : Output → Outcome
alone o = record { output = o; journal = [] }

-- how the root ended and the steps taken, after the lines of the budgets
abbrev pub report_output : List ℕ → End → ℕ → Output
report_output budgets end steps = record {
  bytes = budgets ++ (end_line end ++ steps_line steps);
  status = end_status end;
}

-- an accepted program reached this end with this journal, whose interrupts and expiries come from
-- the outside text
pub record IsReported (p : Program) (dues : List Due) (o : Outcome) : Type 0 where
  pub accepted : IsAccepted p
  pub budgets : List ℕ
  pub told : AreLines p budgets
  pub end : End
  pub report : IsReport p o.journal end
  pub given : AreGiven dues o.journal
  pub printed : o.output ≡ report_output budgets end (taken p o.journal)

-- why an accepted program has no report
abbrev pub pool_output : PoolError → Output
pool_output pool.Memory = memory_output
pool_output pool.SpawnRefused = record { bytes = threads_line; status = 6 }
pool_output pool.Unfinished = record { bytes = unfinished_line; status = 6 }

-- the outcomes of a program, which is accepted or refused, with these events from outside
pub data IsRun (p : Program) (dues : List Due) (o : Outcome) : Type 0 where
  reported : IsReported p dues o → IsRun p dues o
  failed : IsAccepted p → (e : PoolError) → o ≡ alone (pool_output e) → IsRun p dues o
  refused : (refusal : Output) → IsRefused p refusal → o ≡ alone refusal → IsRun p dues o

-- a fault of the outside text comes before the verdict
abbrev pub OutsideRuns : Program → Result (List Due) TraceError → Outcome → Type 0
OutsideRuns p (Ok dues) o = IsRun p dues o
OutsideRuns p (Err e) o = o ≡ alone (trace_fault_output e)

abbrev pub TextRuns : Result Program AsmError → List ℕ → Outcome → Type 0
TextRuns (Ok p) outside o = OutsideRuns p (outside_read outside) o
TextRuns (Err e) outside o = o ≡ alone (text_fault_output e)

-- the outcome of a text and an outside text, or that memory ran out
abbrev pub IsOutcomeOf : List ℕ → List ℕ → Outcome → Type 0
IsOutcomeOf text outside o = TextRuns (judged text) outside o ⊎ (o ≡ alone memory_output)

-- the result of a run: it has the output of an outcome of this kind, and its journal if `kept` is
-- true
pub record Holds (kept : Bool) (P : Outcome → Type 0) (r : Outcome) : Type 0 where
  pub outcome : Outcome
  pub is : P outcome
  pub output : r.output ≡ outcome.output
  pub journal : kept ≡ true → r.journal ≡ outcome.journal

-- ---- what is written

-- the bytes of the trace and of the stream, before and after
abbrev pub trace_and_output : Option (List ℕ) → Option (List ℕ) → Option (List ℕ) → Option (List ℕ)
    → Written
trace_and_output trace_old trace_new out_old out_new = record {
  trace_old = trace_old;
  trace_new = trace_new;
  out_old = out_old;
  out_new = out_new;
}

-- the journal is written to the trace, and the output to the stream
abbrev pub RunWrites : Written → ℕ → Outcome → Type 0
RunWrites w status o = WritesBoth w status o.journal o.output
