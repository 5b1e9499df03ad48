use Rattle.std.proofs.Common.{option_copied}
use Rattle.look_refusal.proofs.WayLemmas.{AreAlike}
use Rattle.look_refusal.proofs.ways.other_from.Given as goal

abbrev pub invariant-loop-number : goal.invariant-loop-number
invariant-loop-number l = AreAlike (option_copied l.known) l.to l.edges l.number
