use Rattle.std.proofs.Common.{◌<◌, length, get_or, ap, ◌∙◌}
use Rattle.std.proofs.lemmas.List.{get_or_default}
use Rattle.sts_code.specs.Program.{Routine, no_routine}
use Rattle.sts_code.proofs.CheckedLemmas.{code_is_short}
use Rattle.sts_machine.proofs.machine.code_there.Goals as goal

pub returns-clause-short : goal.returns-clause-short
returns-clause-short c =
    let less : c.args.function < length c.functions.result.now = rw c.functions.ensures.value c.requires in
    let there = c.index-functions-function.is ∙ get_or_default c.functions.result.now c.args.function _ no_routine less ∙ ap
    (λ rs. get_or rs c.args.function no_routine) c.functions.ensures.value in
    let long = ap length c.as_slice.ensures.value ∙ ap (λ (r : Routine). length r.code) (c.routine.view_is ∙ there) in
    rw long (code_is_short c.args.program.now c.args.function c.functions.ensures.checked).0
