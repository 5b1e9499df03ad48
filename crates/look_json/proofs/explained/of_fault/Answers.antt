use Rattle.std.proofs.Common.{◌≡◌, Result, Err, ap, sym, ◌∙◌, subst}
use Rattle.serde_json.specs.View.{view}
use Rattle.sts_asm.proofs.TextLemmas.{told_fault}
use Rattle.sts_asm.specs.declared.fault.AsmError.{AsmError}
use Rattle.sts_code.specs.Program.{Program}
use Rattle.sts_output.specs.Output.{Output}
use Rattle.look_cases.specs.Answer.{Answers}
use Rattle.look_refusal.specs.Output.{Explains}
use Rattle.look_json.specs.Explained.{case_of}
use Rattle.look_json.proofs.ExplainedLemmas.{explained_as}
use Rattle.look_json.proofs.explained.of_fault.Goals as goal

pub returns : goal.returns
returns c =
    let text = c.args.text.now in
    let told = c.in_ok-told.told in
    let answer = view c.in_ok-value.value in
    let right = c.in_ok-value.ensures (Err c.args.error) (told_fault Program c.args.error c.requires.fault) in
    explained_as text answer told c.with_status.result _
    (subst (λ (r : Result Program AsmError). Answers 1 (case_of text) r answer) (sym c.requires.text) right)
    (subst (λ (r : Result Program AsmError). Explains r text told) (sym c.requires.text) c.in_ok-told.ensures)
    (λ six. (let three : 3 ≡ 6 = sym (ap (λ (o : Output). o.status) c.in_ok-told.ensures) ∙ six in absurd (cc)))
    c.in_ok-said.ensures c.with_status.ensures
