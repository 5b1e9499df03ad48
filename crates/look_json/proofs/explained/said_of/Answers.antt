use Rattle.std.proofs.Common.{Ok, ap, sym, ◌∙◌}
use Rattle.sts_code.specs.Program.{Program}
use Rattle.sts_output.proofs.StopLemmas.{judged_right}
use Rattle.look_json.proofs.explained.said_of.Goals as goal

pub of_judged-requires-clause-refusal : goal.of_judged-requires-clause-refusal
of_judged-requires-clause-refusal c = (judged_right _ _ c.in_ok-judge-in-Ok.ensures).1

pub of_judged-requires-clause-program : goal.of_judged-requires-clause-program
of_judged-requires-clause-program c =
    sym c.in_ok-outline.ensures.program ∙ c.in-Ok.is ∙ ap (λ (p : Program). Ok p) (sym (judged_right _ _ c.in_ok-judge-in-Ok.ensures).0)
