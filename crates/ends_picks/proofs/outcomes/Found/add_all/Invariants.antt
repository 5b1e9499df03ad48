use Rattle.std.proofs.Common.{◌≡◌, true}
use Rattle.std.specs.List.{AllWithin}
use Rattle.laws_calls.specs.Tasks.{Among}
use Rattle.ends_picks.specs.declared.outcomes.Outcome.{Outcome}
use Rattle.ends_picks.specs.Outcomes.{after, is_within}
use Rattle.ends_picks.proofs.outcomes.Found.add_all.Given as goal

abbrev pub invariant-loop-outcome : goal.invariant-loop-outcome
invariant-loop-outcome l = record {
  has : AllWithin (λ (o : Outcome). is_within l.seen (after l.seen o l.state) ≡ true → Among l.self.outcomes.items (after l.seen o l.state)) l.before 0 l.outcome-index;
  keeps : (o : Outcome) → Among l.initial.self.outcomes.items o → Among l.self.outcomes.items o;
}
