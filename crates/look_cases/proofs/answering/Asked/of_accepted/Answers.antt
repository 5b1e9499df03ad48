use Rattle.std.proofs.Common.{ap, ◌∙◌}
use Rattle.std.proofs.lemmas.Result.{IfOk-weaker}
use Rattle.serde_json.specs.View.{view}
use Rattle.look_cases.specs.Answer.{program_answer}
use Rattle.look_cases.specs.Case.{seen}
use Rattle.look_cases.proofs.answering.Asked.of_accepted.Goals as goal

pub returns : goal.returns
returns c =
    IfOk-weaker c.of_program.result _ _
    (λ v h. (
      view c.in_ok-verdict.verdict,
      c.in_ok-verdict.ensures (seen c.args.self.case).text,
      h ∙ ap
          (λ p. program_answer c.args.self.number p (seen c.args.self.case) (view c.in_ok-verdict.verdict)) c.program.ensures.value,
    ))
    c.of_program.ensures
