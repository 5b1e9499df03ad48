-- What a run leaves for standard error (this project's own).
use Rattle.std.specs.Prelude.{◌≡◌, ℕ, List, Option, Some, None, Result}
use Rattle.std.specs.Borrow.{Bor}
use Rattle.clap.specs.Words.{Text}
use Rattle.sts_code.specs.Program.{Program}
use Rattle.sts_asm.specs.declared.fault.AsmError.{AsmError}
use Rattle.sts_trace.specs.Reading.{outside_read}
use Rattle.sts_output.specs.Kept.{KeepsFault}
use Rattle.sts_output.specs.Reasons.{outside_reason}
use Rattle.sts_cli.specs.declared.playing.Aside.{Aside}

-- with the status of a fault, the fault of the text is kept, and no error of the trace's file is
-- added
abbrev pub LeavesFault : ℕ → Result Program AsmError → (old new : Aside) → Type 0
LeavesFault status read old new =
    status ≡ 3 → KeepsFault read old.assembled new.assembled × (new.unwritten ≡ old.unwritten)

-- the line about a fault of the outside text, if the run has one
abbrev pub run_reason : List ℕ → Option (Bor Text) → List ℕ → Option (List ℕ)
run_reason program None outside = None
run_reason program (Some name) outside =
    outside_reason program name.now outside (outside_read outside)
