use Rattle.look_accepted.proofs.Searching.{IsSearched}
use Rattle.look_accepted.proofs.search.all_rules.Given as goal

abbrev pub invariant-loop-at : goal.invariant-loop-at
invariant-loop-at l = IsSearched l.program l.function l.typing l.at l.points.found.items l.rules.items
