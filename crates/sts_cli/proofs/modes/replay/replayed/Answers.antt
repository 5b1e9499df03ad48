use Rattle.std.proofs.Common.{◌≡◌, ℕ, List, Result, Ok, refl, ap, sym, subst, ◌∙◌}
use Rattle.std.proofs.lemmas.Result.{err_from_is_err_and}
use Rattle.sts_code.specs.Program.{Program}
use Rattle.sts_model.specs.declared.event.Event.{Event}
use Rattle.sts_asm.specs.declared.fault.AsmError.{AsmError}
use Rattle.sts_trace.specs.Reading.{trace_read}
use Rattle.sts_trace.specs.declared.error.TraceError.{TraceError}
use Rattle.sts_output.specs.Output as def
use Rattle.sts_output.specs.Output.{IsReplay, Output, ReplayShows, TracedShows}
use Rattle.sts_output.specs.declared.assembled.Assembled.TheVariants as kept
use Rattle.sts_output.proofs.StopLemmas.{says_anyway, says_less}
use Rattle.sts_cli.proofs.modes.replay.replayed.Goals as goal

-- what is shown of the program that a text spells
of_program : (r : Result Program AsmError) (p : Program) (trace : List ℕ) (o : Output) → r ≡ Ok p → TracedShows p (trace_read trace) o → ReplayShows r trace o
of_program r p trace o is = subst (λ r. ReplayShows r trace o) (sym is)

-- and of the events that a trace spells
of_events : (p : Program) (r : Result (List Event) TraceError) (events : List Event) (o : Output) → r ≡ Ok events → IsReplay p events o → TracedShows p r o
of_events p r events o is = subst (λ r. TracedShows p r o) (sym is)

pub returns-in_err-program-clause-output : goal.returns-in_err-program-clause-output
returns-in_err-program-clause-output c =
    let trace = c.args.trace.now in
    let p = err_from_is_err_and c.from_residual.result c.from_residual.ensures.1 in
    rw (p.1, p.2) (says_less c.in_err-program.field-0.0 _ _
    (λ o h. subst (λ r. ReplayShows r trace o) (sym h.fault) h.printed) c.in_err-program.ensures.program)

pub returns-in_err-events-clause-output : goal.returns-in_err-events-clause-output
returns-in_err-events-clause-output c =
    let program = c.in_ok-program.program in
    let p = err_from_is_err_and c.from_residual-in_err-events.result c.from_residual-in_err-events.ensures.1 in
    rw (p.1, p.2) (says_less c.in_err-events.field-0.0 _ _
    (λ o h. of_program _ program _ o c.in_ok-program.ensures.program (subst (λ r. TracedShows program r o) (sym h.fault) h.printed))
    c.in_err-events.ensures)

pub returns-in_err-verified-clause-output : goal.returns-in_err-verified-clause-output
returns-in_err-verified-clause-output c =
    let p = err_from_is_err_and c.from_residual-in_err-verified.result c.from_residual-in_err-verified.ensures.1 in
    rw (p.1, p.2) (says_less c.in_err-verified.field-0.0 _ _
    (λ o h. of_program _ _ _ o c.in_ok-program.ensures.program (of_events _ _ _ o c.in_ok-events.ensures (def.refused h)))
    c.in_err-verified.ensures)

pub returns-clause-output : goal.returns-clause-output
returns-clause-output c =
    let o = c.in_ok-output.output in
    of_program _ _ _ o c.in_ok-program.ensures.program
    (of_events _ _ _ o c.in_ok-events.ensures
    (subst (λ p. IsReplay p c.in_ok-events.events.items o) c.in_ok-verified.ensures
    (subst (λ es. IsReplay c.in_ok-verified.verified es o) c.as_slice.ensures.value c.in_ok-output.ensures)))

pub returns-in_err-program-clause-fault : goal.returns-in_err-program-clause-fault
returns-in_err-program-clause-fault c =
    let p = err_from_is_err_and c.from_residual.result c.from_residual.ensures.1 in
    rw (p.1, p.2) c.in_err-program.ensures.fault

pub returns-in_err-events-clause-fault : goal.returns-in_err-events-clause-fault
returns-in_err-events-clause-fault c =
    let p = err_from_is_err_and c.from_residual-in_err-events.result c.from_residual-in_err-events.ensures.1 in
    rw (p.1, p.2) (says_anyway c.in_err-events.field-0.0 _ c.in_ok-program.ensures.fault)

pub returns-in_err-verified-clause-fault : goal.returns-in_err-verified-clause-fault
returns-in_err-verified-clause-fault c =
    let p = err_from_is_err_and c.from_residual-in_err-verified.result c.from_residual-in_err-verified.ensures.1 in
    rw (p.1, p.2) (says_anyway c.in_err-verified.field-0.0 _ c.in_ok-program.ensures.fault)

pub returns-clause-fault : goal.returns-clause-fault
returns-clause-fault c = rw c.in_ok-program.ensures.program (λ _. refl)

pub returns-clause-program : goal.returns-clause-program
returns-clause-program c =
    rw c.in_ok-program.ensures.program (ap kept.Program (c.into_program.ensures.value ∙ c.in_ok-verified.ensures))
