use Rattle.std.proofs.Common.{◌≡◌, ◌++◌, List, ℕ, arith, sym, subst}
use Rattle.std.specs.Prelude.{IfSome}
use Rattle.std.specs.Fmt.{decimal}
use Rattle.sts_trace.proofs.Steps.{digit_first}
use Rattle.sts_trace.proofs.trace.first_number.Goals as goal

pub returns-in-48-clause-spelled : goal.returns-in-48-clause-spelled
returns-in-48-clause-spelled c = sym (digit_first 0 c.args.text.now c.in-48.len_at_least (omega arith) (omega arith))

pub returns-in-49-to-57-clause-spelled : goal.returns-in-49-to-57-clause-spelled
returns-in-49-to-57-clause-spelled c =
    subst (λ (xs : List ℕ). IfSome c.with_digits.result (λ s. xs ≡ decimal s.0 ++ s.1.now))
    (digit_first c.from.result c.args.text.now c.in-49-to-57.len_at_least (omega arith) (omega arith)) c.with_digits.ensures.spelled
