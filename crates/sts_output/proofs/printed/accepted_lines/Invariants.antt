use Rattle.std.proofs.Common.{◌≡◌, ◌++◌, drop}
use Rattle.std.specs.String.{string_bytes}
use Rattle.sts_output.specs.Printed as def
use Rattle.sts_output.proofs.printed.accepted_lines.Given as goal

-- what is written, and the lines of the rest
abbrev pub invariant-loop-i : goal.invariant-loop-i
invariant-loop-i l = string_bytes l.out ++ def.accepted_lines (drop l.i l.functions) (drop l.i l.budgets) ≡ string_bytes l.fn.out ++ def.accepted_lines l.functions l.budgets
