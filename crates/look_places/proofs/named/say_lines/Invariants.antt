use Rattle.std.proofs.Common.{◌≡◌, ◌++◌, length}
use Rattle.sts_text.specs.Words.{lines}
use Rattle.look_places.specs.Named as def
use Rattle.look_places.proofs.named.say_lines.Given as goal

-- what is written, and the lines of the rest
abbrev pub invariant-loop-line : goal.invariant-loop-line
invariant-loop-line l = l.out.items ++ def.named_lines l.names (lines l.rest) ≡ l.initial.out.items ++ def.named_lines l.names (lines l.told)

abbrev pub decreases-loop-line : goal.decreases-loop-line
decreases-loop-line l = length l.rest
