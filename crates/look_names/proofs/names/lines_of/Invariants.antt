use Rattle.std.proofs.Common.{◌≡◌, ◌++◌, length, map}
use Rattle.sts_text.specs.Words.{lines}
use Rattle.look_names.proofs.names.lines_of.Given as goal

-- the lines so far, and those of the rest
abbrev pub invariant-loop-line : goal.invariant-loop-line
invariant-loop-line l = map (λ x. x.now) l.found.items ++ lines l.rest ≡ lines l.text

abbrev pub decreases-loop-line : goal.decreases-loop-line
decreases-loop-line l = length l.rest
