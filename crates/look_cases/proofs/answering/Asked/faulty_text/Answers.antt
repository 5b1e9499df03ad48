use Rattle.std.proofs.Common.{subst, sym}
use Rattle.std.proofs.lemmas.Result.{IfOk-weaker}
use Rattle.serde_json.specs.View.{view}
use Rattle.look_cases.specs.Answer as def
use Rattle.look_cases.specs.Case.{seen}
use Rattle.look_cases.proofs.answering.Asked.faulty_text.Goals as goal

pub returns : goal.returns
returns c read fails =
    let fault = c.in_ok-fault.ensures read fails in
    IfOk-weaker c.with_member.result _ _
    (λ v h. subst (λ r. def.Answers c.args.self.number (seen c.args.self.case) r (view v)) (sym fault.0) h)
    (c.with_member.ensures _ _ c.numbered.ensures fault.1)
