use Rattle.std.proofs.Common.{Err}
use Rattle.sts_asm.proofs.TextLemmas.{told_fault}
use Rattle.sts_code.specs.Program.{Program}
use Rattle.look_ends_json.proofs.ends.JsonEndsEndsForm.program_of.Goals as goal

pub returns-in_ok-faulty_text-in-Err : goal.returns-in_ok-faulty_text-in-Err
returns-in_ok-faulty_text-in-Err c =
    let fault = rw c.in-Err.is at c.requires in
    let told = c.in_ok-faulty_text-in-Err.ensures (Err c.in-Err.error) (told_fault Program c.in-Err.error fault) in
    record { error = c.in-Err.error; fault = c.in-Err.is; printed = told.1 }
