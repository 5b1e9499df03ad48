use Rattle.std.proofs.Common.{List, Option, take}
use Rattle.sts_model.specs.declared.event.End.{End}
use Rattle.laws_calls.specs.Tasks.{Among}
use Rattle.laws_calls.specs.Fitting.{Fits}
use Rattle.ends_picks.specs.Outcomes.{outcome_of}
use Rattle.ends_picks.proofs.outcomes.outcomes.Given as goal

-- the outcomes of the parts so far
abbrev pub invariant-loop-i : goal.invariant-loop-i
invariant-loop-i l = (pick : List (Option End)) → Fits l.seen pick → Among l.found.items (outcome_of l.seen (take l.i pick))
