-- The output for a fault of a text, which an explanation stops at (this project's own).
use Rattle.std.specs.Prelude.{◌≡◌, ℕ, List, Result, Err}
use Rattle.sts_code.specs.Program.{Program}
use Rattle.sts_asm.specs.declared.fault.AsmError.{AsmError}
use Rattle.sts_output.specs.Output.{Output}
use Rattle.look_refusal.specs.Output.{fault_output}

-- the output for the fault of a text that was read
pub record IsTextFault (read : Result Program AsmError) (text : List ℕ) (output : Output)
    : Type 0 where
  pub error : AsmError
  pub fault : read ≡ Err error
  pub printed : output ≡ fault_output error text
