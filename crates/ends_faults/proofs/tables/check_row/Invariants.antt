use Rattle.std.specs.List.{AllWithin}
use Rattle.ends_faults.specs.Safe.{IsSafe}
use Rattle.ends_faults.proofs.tables.check_row.Given as goal

abbrev pub invariant-loop-own : goal.invariant-loop-own
invariant-loop-own l = AllWithin (IsSafe l.program l.row.call) l.own-items 0 l.own-index
