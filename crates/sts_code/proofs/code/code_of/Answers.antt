use Rattle.std.proofs.Common.{◌≡◌, length, ap, ◌∙◌}
use Rattle.sts_code.specs.Program.{Routine}
use Rattle.sts_code.proofs.LimitLemmas.{function_is_short, function_has_code}
use Rattle.sts_code.proofs.code.code_of.Goals as goal

pub returns-in-Some-clause-short : goal.returns-in-Some-clause-short
returns-in-Some-clause-short c =
    let e : length c.as_slice.result.now ≡ length c.in-Some.f.now.code =
    ap length c.as_slice.ensures.value ∙ ap (λ (r : Routine). length r.code) c.f.view_is in
    rw e (function_is_short c.args.program.now c.functions.result.now c.args.function _ c.in-Some.f.now c.functions.ensures.value
    c.functions.ensures.checked c.in-Some.ensures.lookup.0 c.in-Some.ensures.lookup.1).0

pub returns-in-Some-clause-some : goal.returns-in-Some-clause-some
returns-in-Some-clause-some c within =
    let e : length c.as_slice.result.now ≡ length c.in-Some.f.now.code =
    ap length c.as_slice.ensures.value ∙ ap (λ (r : Routine). length r.code) c.f.view_is in
    rw e (function_has_code c.args.program.now c.functions.result.now c.args.function _ c.in-Some.f.now c.functions.ensures.value
    c.functions.ensures.checked within c.in-Some.ensures.lookup.1)
