use Rattle.std.specs.List.{AllWithin, Contains}
use Rattle.sts_plain.specs.declared.misstep.PlainState.TheVariants as plain
use Rattle.laws_calls.specs.declared.table.Way.{Way}
use Rattle.ends_plain.specs.Listed.{ends_of}
use Rattle.ends_whole.proofs.whole.have_ways.Given as goal

abbrev pub invariant-loop-way : goal.invariant-loop-way
invariant-loop-way l = AllWithin (λ (way : Way). Contains (ends_of l.found) (plain.Ended way.end)) l.ways 0 l.way-index
