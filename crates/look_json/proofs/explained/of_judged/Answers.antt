use Rattle.std.proofs.Common.{Ok, sym, subst}
use Rattle.serde_json.specs.View.{view}
use Rattle.sts_asm.specs.declared.fault.AsmError.{AsmError}
use Rattle.sts_code.specs.Program.{Program}
use Rattle.std.specs.Prelude.{Result}
use Rattle.sts_output.specs.Stops.{program_in}
use Rattle.look_cases.specs.Answer.{Answers}
use Rattle.look_refusal.proofs.FaultLemmas.{verdict_explains, verdict_whole}
use Rattle.look_json.specs.Explained.{case_of}
use Rattle.look_json.proofs.ExplainedLemmas.{explained_as}
use Rattle.look_json.proofs.explained.of_judged.Goals as goal

pub returns : goal.returns
returns c =
    let text = c.args.text.now in
    let p = program_in c.args.judged.now in
    let o = c.args.outline.now in
    let told = c.in_ok-told.told in
    let answer = view c.in_ok-value.value in
    explained_as text answer told c.with_status.result _
    (subst (λ (r : Result Program AsmError). Answers 1 (case_of text) r answer) (sym c.requires.program) c.in_ok-value.ensures)
    (verdict_explains text p o told c.requires.program c.requires.outline c.in_ok-told.ensures) (verdict_whole p o told c.in_ok-told.ensures)
    c.in_ok-said.ensures c.with_status.ensures
