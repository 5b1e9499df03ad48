use Rattle.std.proofs.Common.{◌≡◌, true, Some}
use Rattle.std.specs.List.{AllWithin}
use Rattle.laws_calls.specs.Tasks.{Among}
use Rattle.laws_calls.specs.declared.table.Way.{Way}
use Rattle.ends_picks.specs.declared.outcomes.Outcome.{Outcome}
use Rattle.ends_picks.specs.Outcomes.{after, is_within}
use Rattle.ends_picks.proofs.outcomes.Found.add_ways.Given as goal

abbrev pub invariant-loop-way : goal.invariant-loop-way
invariant-loop-way l = record {
  has : AllWithin (λ (way : Way). (o : Outcome) → Among l.before o → is_within l.seen (after l.seen o (Some way.end)) ≡ true → Among l.self.outcomes.items (after l.seen o (Some way.end))) l.way-items 0 l.way-index;
  keeps : (o : Outcome) → Among l.initial.self.outcomes.items o → Among l.self.outcomes.items o;
}
