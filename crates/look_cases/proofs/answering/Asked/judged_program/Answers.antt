use Rattle.std.proofs.Common.{Ok, subst}
use Rattle.std.proofs.lemmas.Result.{IfOk-weaker}
use Rattle.serde_json.specs.View.{view}
use Rattle.sts_code.specs.Program.{Program}
use Rattle.sts_output.proofs.StopLemmas.{judged_right}
use Rattle.look_cases.specs.Answer.{Answers}
use Rattle.look_cases.specs.Case.{seen}
use Rattle.look_cases.proofs.answering.Asked.judged_program.Goals as goal

pub of_judged-requires : goal.of_judged-requires
of_judged-requires c = (judged_right _ _ c.in_ok-judge.ensures).1

pub returns : goal.returns
returns c =
    IfOk-weaker c.of_judged.result _ _
    (λ v h. subst (λ (p : Program). Answers c.args.self.number (seen c.args.self.case) (Ok p) (view v)) (judged_right _ _ c.in_ok-judge.ensures).0 h)
    c.of_judged.ensures
