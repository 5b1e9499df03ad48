use Rattle.std.proofs.Common.{◌≡◌, take}
use Rattle.std.specs.List.{filter}
use Rattle.laws_calls.specs.declared.table.Way.{Way}
use Rattle.laws_calls.specs.Steps.{split}
use Rattle.ends_table.specs.Led.{of_kind}
use Rattle.ends_table.proofs.parts.split.Given as goal

abbrev pub invariant-loop-way : goal.invariant-loop-way
invariant-loop-way l = l.kept ≡ filter (λ (way : Way). split l.joiner l.kind.counting (of_kind l.kind.succeeds) way.end) (take l.way-index l.ways)
