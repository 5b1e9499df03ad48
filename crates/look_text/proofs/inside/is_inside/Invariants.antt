use Rattle.std.proofs.Common.{◌≡◌, ◌+◌, ◌≤◌, length}
use Rattle.sts_text.specs.Words.{lines}
use Rattle.look_text.specs.Inside.{is_open_before, is_inside}
use Rattle.look_text.proofs.inside.is_inside.Given as goal

-- the lines so far left a function open or not
abbrev pub invariant-loop-after : goal.invariant-loop-after
invariant-loop-after l = record {
  left : is_open_before l.fn.line l.inside l.number (lines l.rest) ≡ is_inside l.fn.text l.fn.line;
  number : l.number + length l.rest ≤ length l.fn.text + 1;
}

abbrev pub decreases-loop-after : goal.decreases-loop-after
decreases-loop-after l = length l.rest
