use Rattle.std.proofs.Common.{◌≡◌, ◌++◌, drop}
use Rattle.sts_asm.specs.Kept.{naming_lines}
use Rattle.sts_asm.proofs.kept.naming_lines.Given as goal

abbrev pub invariant-loop-at : goal.invariant-loop-at
invariant-loop-at l = l.again.items ++ naming_lines (drop l.at l.lines) (drop l.at l.code) ≡ naming_lines l.lines l.code
