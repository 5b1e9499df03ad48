use Rattle.std.proofs.Common.{arith}
use Rattle.std.proofs.lemmas.Bool.Decides.{nat_tests}
use Rattle.sts_trace.proofs.Steps.{step_first}
use Rattle.sts_trace.proofs.trace.first_step.Goals as goal

pub returns-in_default-eq10-clause-lines : goal.returns-in_default-eq10-clause-lines
returns-in_default-eq10-clause-lines c =
    step_first c.args.text.now c.in_ok-word.word.now c.in_ok-word.rest.now c.in_ok-first_number.field-0.1.now c.in_ok-first_number.field-0.0
    (c.is_step.ensures.0 (grind (arith, nat_tests))) c.in_ok-word.ensures.cases.0 c.in_ok-word.ensures.cases.1 c.in-32.len_at_least
    (omega arith) c.in_ok-first_number.ensures.spelled c.in_ok-first_number.ensures.small c.in_default-eq10.len_at_least (omega arith)
