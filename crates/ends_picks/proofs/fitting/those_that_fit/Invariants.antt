use Rattle.std.proofs.Common.{◌≡◌, List, Option}
use Rattle.std.specs.List.{AllWithin}
use Rattle.sts_model.specs.declared.event.End.{End}
use Rattle.laws_calls.specs.Tasks.{Among}
use Rattle.laws_calls.specs.Fitting.{Fits}
use Rattle.ends_picks.specs.declared.outcomes.Outcome.{Outcome}
use Rattle.ends_picks.specs.Outcomes.{outcome_of}
use Rattle.ends_picks.proofs.fitting.those_that_fit.Given as goal

abbrev pub invariant-loop-outcome : goal.invariant-loop-outcome
invariant-loop-outcome l = AllWithin (λ (o : Outcome). (pick : List (Option End)) → Fits l.seen pick → o ≡ outcome_of l.seen pick → Among l.list.items o) l.found 0 l.outcome-index
