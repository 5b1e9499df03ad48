use Rattle.std.proofs.lemmas.Result.{IfOk-weaker}
use Rattle.serde_json.specs.View.{view}
use Rattle.look_cases.specs.Answer.{refuses}
use Rattle.look_cases.proofs.answering.Asked.of_refused.Goals as goal

pub returns : goal.returns
returns c =
    let refusal = c.args.refusal.now in
    IfOk-weaker c.of_program.result _ _
    (λ v h. (view c.in_ok-verdict.verdict, refuses refusal.function refusal.pc refusal.cause c.requires c.in_ok-verdict.ensures, h))
    c.of_program.ensures
