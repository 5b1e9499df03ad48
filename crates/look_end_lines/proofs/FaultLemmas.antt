-- The output for a fault of a text.
use Rattle.std.proofs.Common.{List, ℕ, Result, Ok, Err}
use Rattle.sts_asm.specs.declared.fault.AsmError.{AsmError}
use Rattle.sts_code.specs.Program.{Program}
use Rattle.sts_output.specs.Stops.{Gives}
use Rattle.sts_output.specs.declared.stopped.Stopped.{Stopped}
use Rattle.look_refusal.specs.Stops.{IsTextFault}
use Rattle.sts_output.proofs.StopLemmas.{says_less}
use Rattle.look_end_lines.specs.Form.{IsFaultIn}
use Rattle.look_end_lines.specs.InLines.{lines_form}

-- the output for a fault is that of the form in lines
pub faults_in_lines : (read : Result Program AsmError) (text : List ℕ) (r : Result Program Stopped) (P : Program → Type 0) → Gives r P (IsTextFault read text) → Gives r P (IsFaultIn lines_form read text)
faults_in_lines read text (Ok p) P h = h
faults_in_lines read text (Err e) P h = says_less e (IsTextFault read text) (IsFaultIn lines_form read text) (λ o k. record { error = k.error; fault = k.fault; printed = k.printed }) h
