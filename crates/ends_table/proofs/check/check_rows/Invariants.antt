use Rattle.std.specs.List.{AllWithin}
use Rattle.ends_table.specs.Led.{IsLedRow}
use Rattle.ends_table.proofs.check.check_rows.Given as goal

abbrev pub invariant-loop-row : goal.invariant-loop-row
invariant-loop-row l = AllWithin (IsLedRow l.program l.outside l.table) l.table 0 l.row-index
