use Rattle.std.proofs.Common.{sym, subst}
use Rattle.std.proofs.lemmas.Result.{err_from_is_err_and}
use Rattle.sts_output.specs.Output as def
use Rattle.sts_output.specs.Output.{IsVerdict, VerifyShows}
use Rattle.sts_output.proofs.StopLemmas.{says_anyway, says_less}
use Rattle.sts_output.proofs.modes.verify.verified.Goals as goal

pub returns-in_err-program-clause-output : goal.returns-in_err-program-clause-output
returns-in_err-program-clause-output c =
    let p = err_from_is_err_and c.from_residual.result c.from_residual.ensures.1 in
    rw (p.1, p.2) (says_less c.in_err-program.field-0.0 _ _ (λ o h. subst (λ r. VerifyShows r o) (sym h.fault) h.printed) c.in_err-program.ensures.program)

pub returns-in_err-verified-clause-output : goal.returns-in_err-verified-clause-output
returns-in_err-verified-clause-output c =
    let p = err_from_is_err_and c.from_residual-in_err-verified.result c.from_residual-in_err-verified.ensures.1 in
    rw (p.1, p.2) (says_less c.in_err-verified.field-0.0 _ _
    (λ o h. subst (λ r. VerifyShows r o) (sym c.in_ok-program.ensures.program) (def.refused h)) c.in_err-verified.ensures)

pub returns-clause-output : goal.returns-clause-output
returns-clause-output c =
    subst (λ r. VerifyShows r c.in_ok-output.output) (sym c.in_ok-program.ensures.program)
    (subst (λ p. IsVerdict p c.in_ok-output.output) c.in_ok-verified.ensures c.in_ok-output.ensures)

pub returns-in_err-program-clause-fault : goal.returns-in_err-program-clause-fault
returns-in_err-program-clause-fault c =
    let p = err_from_is_err_and c.from_residual.result c.from_residual.ensures.1 in
    rw (p.1, p.2) c.in_err-program.ensures.fault

pub returns-in_err-verified-clause-fault : goal.returns-in_err-verified-clause-fault
returns-in_err-verified-clause-fault c =
    let p = err_from_is_err_and c.from_residual-in_err-verified.result c.from_residual-in_err-verified.ensures.1 in
    rw (p.1, p.2) (says_anyway c.in_err-verified.field-0.0 _ c.in_ok-program.ensures.fault)
