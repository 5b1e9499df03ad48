use Rattle.std.specs.List.{AllWithin}
use Rattle.ends_table.specs.Led.{IsLedAt}
use Rattle.ends_table.proofs.check.check_row.Given as goal

abbrev pub invariant-loop-own : goal.invariant-loop-own
invariant-loop-own l = AllWithin (IsLedAt l.program l.outside l.table l.row) l.own-items 0 l.own-index
