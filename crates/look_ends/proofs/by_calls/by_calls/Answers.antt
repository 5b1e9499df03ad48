use Rattle.std.proofs.lemmas.Result.{IfOk-weaker}
use Rattle.look_ends.proofs.by_calls.by_calls.Goals as goal

pub returns-then-not-faultless-clause-complete : goal.returns-then-not-faultless-clause-complete
returns-then-not-faultless-clause-complete g c = IfOk-weaker c.some_ends.result _ _ (λ r part whole. cc) c.some_ends.ensures.part

pub returns-clause-complete : goal.returns-clause-complete
returns-clause-complete g c =
    IfOk-weaker c.tried.result _ _ (λ r all whole. all whole (c.in_ok-faultless.ensures c.if-not-faultless.false)) c.tried.ensures.complete
