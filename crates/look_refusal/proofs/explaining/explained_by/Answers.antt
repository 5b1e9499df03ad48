use Rattle.std.proofs.Common.{Result, Ok, ◌∙◌, sym, subst}
use Rattle.std.proofs.lemmas.Result.{IfOk-weaker}
use Rattle.sts_asm.specs.declared.fault.AsmError.{AsmError}
use Rattle.sts_code.specs.Program.{Program}
use Rattle.sts_output.proofs.StopLemmas.{judged_right}
use Rattle.look_refusal.specs.Output as def
use Rattle.look_refusal.proofs.FaultLemmas.{verdict_explains}
use Rattle.look_refusal.proofs.explaining.explained_by.Goals as goal

pub verdict-requires : goal.verdict-requires
verdict-requires c = (judged_right _ _ c.in_ok-judge-in-Ok.ensures).1

pub returns-in_ok-judge-in-Ok : goal.returns-in_ok-judge-in-Ok
returns-in_ok-judge-in-Ok c =
    let right = judged_right _ _ c.in_ok-judge-in-Ok.ensures in
    IfOk-weaker c.verdict.result _ _
    (λ o h. verdict_explains c.args.text.now c.in-Ok.program c.args.outline.now o (sym c.requires.read ∙ c.in-Ok.is) c.requires.outline
    (subst (λ (p : Program). def.IsVerdict p c.args.outline.now o) right.0 h)) c.verdict.ensures

pub returns-in-Err : goal.returns-in-Err
returns-in-Err c =
    IfOk-weaker c.text_fault.result _ _
    (λ o h. subst (λ (r : Result Program AsmError). def.Explains r c.args.text.now o) (sym c.in-Err.is ∙ c.requires.read) h) c.text_fault.ensures
