-- A text that was assembled leaves its program or its fault for the lines on standard error (this
-- project's own).
use Rattle.std.specs.Prelude.{◌≡◌, ⊤, Option, Some, None, Result, Ok, Err}
use Rattle.sts_code.specs.Program.{Program}
use Rattle.sts_asm.specs.declared.fault.AsmError.{AsmError}
use Rattle.sts_output.specs.declared.assembled.Assembled.{Assembled}
use Rattle.sts_output.specs.declared.assembled.Assembled.TheVariants as kept

-- the fault that is kept
abbrev pub kept_fault : Assembled → Option AsmError
kept_fault (kept.Fault error) = Some error
kept_fault assembled = None

-- the program that is kept
abbrev pub kept_program : Assembled → Option Program
kept_program (kept.Program p) = Some p
kept_program assembled = None

-- the fault of a text, if it has one
abbrev pub fault_in : Result Program AsmError → Option AsmError
fault_in (Ok p) = None
fault_in (Err error) = Some error

-- The fault of the text is kept, if it has one. If not, none is added to what was kept before.
abbrev pub KeepsFault : Result Program AsmError → (old new : Assembled) → Type 0
KeepsFault (Err error) old new = new ≡ kept.Fault error
KeepsFault (Ok p) old new = kept_fault old ≡ None → kept_fault new ≡ None

-- the program of the text is kept, if it has one
abbrev pub KeepsProgram : Result Program AsmError → Assembled → Type 0
KeepsProgram (Ok p) new = new ≡ kept.Program p
KeepsProgram (Err error) new = ⊤
