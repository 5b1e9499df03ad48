-- What a step of a mode or an explanation gives: something to go on with, or the output that says
-- why it goes no further (this project's own).
use Rattle.std.specs.Prelude.{◌≡◌, ⊤, List, Result, Ok, Err, MatchResult}
use Rattle.sts_code.specs.Program.{Program}
use Rattle.sts_model.specs.declared.event.Event.{Event}
use Rattle.sts_asm.specs.declared.fault.AsmError.{AsmError}
use Rattle.sts_rules.specs.Refusal.{IsRefusal}
use Rattle.sts_trace.specs.declared.error.TraceError.{TraceError}
use Rattle.sts_output.specs.Output.{Output, memory_output, text_fault_output, trace_fault_output}
use Rattle.sts_output.specs.Kept.{KeepsFault}
use Rattle.sts_output.specs.declared.assembled.Assembled.{Assembled}
use Rattle.sts_output.specs.declared.refusal.Refusal.{Refusal}
use Rattle.sts_output.specs.declared.stopped.Stopped.{Stopped}
use Rattle.sts_output.specs.declared.stopped.Stopped.TheVariants as stopped

-- the output that says why, if memory didn't run out
abbrev pub Says : (Output → Type 0) → Stopped → Type 0
Says Q (stopped.Shown output) = Q output
Says Q stopped.Memory = ⊤

-- something to go on with, or the output that says why there is none
abbrev pub Gives : {T : Type 0} → Result T Stopped → (T → Type 0) → (Output → Type 0) → Type 0
Gives r P Q = MatchResult r P (Says Q)

-- an output, also if it went no further
abbrev pub Prints : Result Output Stopped → (Output → Type 0) → Type 0
Prints r P = Gives r P P

-- the program that was judged: it is accepted, or refused
abbrev pub program_in : Result Program Refusal → Program
program_in (Ok p) = p
program_in (Err refusal) = refusal.program

-- a refusal that the verifier reports
abbrev pub IsReported : Refusal → Type 0
IsReported refusal = IsRefusal refusal.program refusal.function refusal.pc refusal.cause

-- the output for a fault of the text
pub record IsTextFault (read : Result Program AsmError) (output : Output) : Type 0 where
  pub error : AsmError
  pub fault : read ≡ Err error
  pub printed : output ≡ text_fault_output error

-- the fault of the text is kept, unless memory ran out
abbrev pub Keeps : {T : Type 0} → Result T Stopped → Result Program AsmError → (old new : Assembled)
    → Type 0
Keeps r read old new = Gives r (λ _. KeepsFault read old new) (λ _. KeepsFault read old new)

-- the output for a fault of a trace
pub record IsTraceFault (read : Result (List Event) TraceError) (output : Output) : Type 0 where
  pub error : TraceError
  pub fault : read ≡ Err error
  pub printed : output ≡ trace_fault_output error

-- what is written of it
abbrev pub IsShown : Result Output Stopped → Output → Type 0
IsShown (Ok shown) output = output ≡ shown
IsShown (Err (stopped.Shown shown)) output = output ≡ shown
IsShown (Err stopped.Memory) output = output ≡ memory_output
