use Rattle.std.proofs.Common.{List, arith, subst}
use Rattle.laws_calls.specs.Tasks.{Among}
use Rattle.ends_picks.specs.declared.outcomes.Outcome.{Outcome}
use Rattle.ends_picks.proofs.ListLemmas.{among_get}
use Rattle.ends_picks.proofs.outcomes.Found.is_at.Goals as goal

pub returns-then-place-there : goal.returns-then-place-there
returns-then-place-there c same =
    subst (λ (xs : List Outcome). Among xs c.args.outcome) c.as_slice-there.ensures.value
    (among_get c.as_slice-there.result.now c.args.place _ c.args.outcome (omega arith) (c.is_same.ensures same))
