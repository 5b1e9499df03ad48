use Rattle.std.proofs.Common.{subst}
use Rattle.std.proofs.lemmas.Result.{IfOk-weaker}
use Rattle.serde_json.specs.View.{view}
use Rattle.look_cases.specs.Answer.{IsAnswer}
use Rattle.look_cases.specs.Lines as def
use Rattle.look_cases.proofs.replies.reply.Goals as goal

pub returns-in-Ok : goal.returns-in-Ok
returns-in-Ok c =
    let said = c.in-Ok.ensures.ok in
    IfOk-weaker c.answer.result _ _
    (λ v h. def.json (view c.in-Ok.said) said.0 said.1 (subst (λ x. IsAnswer c.args.number x (view v)) c.case_of.ensures h))
    c.answer.ensures
