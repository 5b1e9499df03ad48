use Rattle.std.proofs.Common.{◌≡◌, map}
use Rattle.std.specs.List.{range_with_len}
use Rattle.sts_types.specs.Tables.{end_at}
use Rattle.sts_types.proofs.tables.ends_of.Given as goal

-- those of the places so far
abbrev pub invariant-loop-at : goal.invariant-loop-at
invariant-loop-at l = l.ends.items ≡ map (end_at l.code) (range_with_len 0 l.at)
