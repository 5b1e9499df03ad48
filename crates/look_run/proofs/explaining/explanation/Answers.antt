use Rattle.std.proofs.Common.{◌≡◌, ℕ, List, Result, sym, ◌∙◌, subst}
use Rattle.std.proofs.lemmas.Result.{err_from_is_err_and}
use Rattle.sts_asm.specs.Text.{judged}
use Rattle.sts_asm.specs.declared.fault.AsmError.{AsmError}
use Rattle.sts_code.specs.Program.{Program}
use Rattle.sts_output.specs.Output.{Output}
use Rattle.look_refusal.specs.Stops.{IsTextFault}
use Rattle.sts_output.proofs.StopLemmas.{says_less}
use Rattle.look_run.specs.Output as def
use Rattle.look_run.proofs.explaining.explanation.Goals as goal

-- the output for a fault of a text explains the run
fault_explains : (read told : Result Program AsmError) (text trace : List ℕ) → read ≡ told → (o : Output) → IsTextFault read text o → def.Explains told text trace o
fault_explains read told text trace same o h = subst (λ (r : Result Program AsmError). def.Explains r text trace o) (sym h.fault ∙ same) h.printed

pub returns-in_err-program : goal.returns-in_err-program
returns-in_err-program c =
    let text = c.args.text.now in
    let p = err_from_is_err_and c.from_residual-in_err-program.result c.from_residual-in_err-program.ensures.1 in
    rw (p.1, p.2) (says_less c.in_err-program.field-0.0 (IsTextFault _ text) (def.Explains (judged text) text c.args.trace.now)
    (fault_explains _ (judged text) text c.args.trace.now c.in_ok-outline.ensures.program) c.in_err-program.ensures)
