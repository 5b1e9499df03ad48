use Rattle.std.proofs.Common.{◌≡◌, length}
use Rattle.sts_text.specs.Words.{lines}
use Rattle.look_text.specs.Labels.{are_giving}
use Rattle.look_text.proofs.labels.are_giving.Given as goal

-- the lines so far neither give the label nor end the function
abbrev pub invariant-loop-after : goal.invariant-loop-after
invariant-loop-after l = are_giving (lines l.rest) l.name ≡ are_giving (lines l.text) l.name

abbrev pub decreases-loop-after : goal.decreases-loop-after
decreases-loop-after l = length l.rest
