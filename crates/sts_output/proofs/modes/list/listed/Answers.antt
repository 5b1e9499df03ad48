use Rattle.std.proofs.Common.{sym, ap, ◌∙◌}
use Rattle.std.proofs.lemmas.Result.{err_from_is_err_and}
use Rattle.sts_output.specs.Output.{list_output}
use Rattle.sts_output.proofs.StopLemmas.{says_less}
use Rattle.sts_output.proofs.modes.list.listed.Goals as goal

pub returns-in_err-program-clause-output : goal.returns-in_err-program-clause-output
returns-in_err-program-clause-output c =
    let p = err_from_is_err_and c.from_residual.result c.from_residual.ensures.1 in
    rw (p.1, p.2) (says_less c.in_err-program.field-0.0 _ _ (λ o h. h.printed ∙ sym (ap list_output h.fault)) c.in_err-program.ensures.program)

pub returns-in_err-program-clause-fault : goal.returns-in_err-program-clause-fault
returns-in_err-program-clause-fault c =
    let p = err_from_is_err_and c.from_residual.result c.from_residual.ensures.1 in
    rw (p.1, p.2) c.in_err-program.ensures.fault
