use Rattle.std.proofs.Common.{refl, sym, ap, ◌∙◌}
use Rattle.std.proofs.lemmas.Result.{err_from_is_err_and}
use Rattle.sts_output.specs.Output.{plain_output, run_output, traced_output}
use Rattle.sts_output.proofs.StopLemmas.{says_anyway, says_less}
use Rattle.sts_output.proofs.modes.plain.after_trace.Goals as goal

pub returns-in_err-program-clause-output : goal.returns-in_err-program-clause-output
returns-in_err-program-clause-output c =
    let trace = c.args.trace.now in
    let p = err_from_is_err_and c.from_residual.result c.from_residual.ensures.1 in
    rw (p.1, p.2) (says_less c.in_err-program.field-0.0 _ _ (λ o h. h.printed ∙ sym (ap (λ r. plain_output r trace) h.fault)) c.in_err-program.ensures.program)

pub returns-in_err-events-clause-output : goal.returns-in_err-events-clause-output
returns-in_err-events-clause-output c =
    let trace = c.args.trace.now in
    let whole = ap (λ r. plain_output r trace) c.in_ok-program.ensures.program in
    let p = err_from_is_err_and c.from_residual-in_err-events.result c.from_residual-in_err-events.ensures.1 in
    rw (p.1, p.2) (says_less c.in_err-events.field-0.0 _ _
    (λ o h. h.printed ∙ sym (whole ∙ ap (traced_output c.in_ok-program.program) h.fault)) c.in_err-events.ensures)

pub returns-clause-output : goal.returns-clause-output
returns-clause-output c =
    let trace = c.args.trace.now in
    c.in_ok-output.ensures ∙ ap (run_output c.in_ok-program.program) c.as_slice.ensures.value ∙ sym
    (ap (λ r. plain_output r trace) c.in_ok-program.ensures.program ∙ ap (traced_output c.in_ok-program.program) c.in_ok-events.ensures)

pub returns-in_err-program-clause-fault : goal.returns-in_err-program-clause-fault
returns-in_err-program-clause-fault c =
    let p = err_from_is_err_and c.from_residual.result c.from_residual.ensures.1 in
    rw (p.1, p.2) c.in_err-program.ensures.fault

pub returns-in_err-events-clause-fault : goal.returns-in_err-events-clause-fault
returns-in_err-events-clause-fault c =
    let p = err_from_is_err_and c.from_residual-in_err-events.result c.from_residual-in_err-events.ensures.1 in
    rw (p.1, p.2) (says_anyway c.in_err-events.field-0.0 _ c.in_ok-program.ensures.fault)

pub returns-clause-fault : goal.returns-clause-fault
returns-clause-fault c = rw c.in_ok-program.ensures.program (λ _. refl)

pub returns-clause-program : goal.returns-clause-program
returns-clause-program c = rw c.in_ok-program.ensures.program refl
