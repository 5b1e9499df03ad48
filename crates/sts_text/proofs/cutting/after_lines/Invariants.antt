use Rattle.std.proofs.Common.{◌≡◌, drop}
use Rattle.sts_text.specs.Words.{lines}
use Rattle.sts_text.proofs.cutting.after_lines.Given as goal

-- what is left to pass over, of the rest
abbrev pub invariant-loop-left : goal.invariant-loop-left
invariant-loop-left l = drop l.left (lines l.rest) ≡ drop l.count (lines l.text)

abbrev pub decreases-loop-left : goal.decreases-loop-left
decreases-loop-left l = l.left
