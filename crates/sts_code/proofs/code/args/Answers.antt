use Rattle.std.proofs.Common.{◌≡◌, ap}
use Rattle.sts_code.specs.Program.{Routine}
use Rattle.sts_code.proofs.LimitLemmas.{function_is_short}
use Rattle.sts_code.proofs.code.args.Goals as goal

pub returns-in-Some-clause-few : goal.returns-in-Some-clause-few
returns-in-Some-clause-few c =
    let e : c.f.inside.args ≡ c.in-Some.f.now.args = ap (λ (r : Routine). r.args) c.f.view_is in
    rw e (function_is_short c.args.program.now c.functions.result.now c.args.function _ c.in-Some.f.now c.functions.ensures.value
    c.functions.ensures.checked c.in-Some.ensures.lookup.0 c.in-Some.ensures.lookup.1).1
