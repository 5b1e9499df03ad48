use Rattle.std.proofs.Common.{Err, sym, ◌∙◌}
use Rattle.sts_asm.proofs.TextLemmas.{told_fault}
use Rattle.sts_code.specs.Program.{Program}
use Rattle.look_json.proofs.stories.told.Goals as goal

pub returns-in_ok-of_trace-in-Ok-clause-fault : goal.returns-in_ok-of_trace-in-Ok-clause-fault
returns-in_ok-of_trace-in-Ok-clause-fault c = rw (sym c.in_ok-outline.ensures.program ∙ c.in-Ok.is) (λ none. none)

pub returns-in_ok-line-in-Err-clause-output : goal.returns-in_ok-line-in-Err-clause-output
returns-in_ok-line-in-Err-clause-output c =
    let fault = rw c.in-Err.is at c.in_ok-outline.ensures.fault in
    let told = c.in_ok-line-in-Err.ensures (Err c.in-Err.error) (told_fault Program c.in-Err.error fault) in
    rw (sym c.in_ok-outline.ensures.program ∙ c.in-Err.is) told.1
