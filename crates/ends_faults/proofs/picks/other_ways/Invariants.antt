use Rattle.std.proofs.Common.{◌≡◌, take, not, Some}
use Rattle.std.specs.List.{filter}
use Rattle.laws_calls.specs.declared.table.Way.{Way}
use Rattle.laws_runs.specs.Tallies.{is_kind}
use Rattle.ends_faults.proofs.picks.other_ways.Given as goal

abbrev pub invariant-loop-way : goal.invariant-loop-way
invariant-loop-way l = l.kept ≡ filter (λ (way : Way). not (is_kind l.kind (Some way.end))) (take l.way-index l.ways)
