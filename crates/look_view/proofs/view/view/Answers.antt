use Rattle.std.proofs.Common.{Err, sym, ◌∙◌}
use Rattle.sts_asm.proofs.TextLemmas.{told_fault}
use Rattle.sts_code.specs.Program.{Program}
use Rattle.look_view.proofs.view.view.Goals as goal

pub returns-in_ok-shown-in-Err-clause-output : goal.returns-in_ok-shown-in-Err-clause-output
returns-in_ok-shown-in-Err-clause-output c =
    let fault = rw c.in-Err.is at c.in_ok-outline.ensures.fault in
    let told = c.in_ok-shown-in-Err.ensures (Err c.in-Err.error) (told_fault Program c.in-Err.error fault) in
    rw (sym c.in_ok-outline.ensures.program ∙ c.in-Err.is) told.1
