use Rattle.std.proofs.Common.{◌≡◌}
use Rattle.sts_cli.proofs.remarks.remark_outside.Given as goal

-- the lines about failures stay
abbrev pub invariant-loop-index : goal.invariant-loop-index
invariant-loop-index l = l.remarks.notes ≡ l.fn.remarks.notes
