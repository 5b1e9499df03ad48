use Rattle.std.proofs.Common.{List, sym, subst}
use Rattle.laws_calls.specs.Tasks.{Among}
use Rattle.ends_picks.specs.declared.outcomes.Outcome.{Outcome}
use Rattle.ends_picks.specs.Outcomes.{outcome_of}
use Rattle.ends_picks.proofs.fitting.fitting.Goals as goal

pub returns : goal.returns
returns c pick fits =
    let there = subst (λ (os : List Outcome). Among os (outcome_of c.args.seen.now pick)) (sym c.as_slice.ensures.value) (c.in_ok-found.ensures pick fits) in
    c.in_ok-list.ensures pick fits there
