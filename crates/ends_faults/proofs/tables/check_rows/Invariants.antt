use Rattle.std.specs.List.{AllWithin}
use Rattle.std.specs.Prelude.{All}
use Rattle.laws_calls.specs.declared.table.Row.{Row}
use Rattle.ends_faults.specs.Safe.{IsSafe}
use Rattle.ends_faults.proofs.tables.check_rows.Given as goal

abbrev pub invariant-loop-row : goal.invariant-loop-row
invariant-loop-row l = AllWithin (λ (row : Row). All (IsSafe l.program row.call) row.states) l.table 0 l.row-index
