use Rattle.std.proofs.Common.{◌≡◌, length, ◌++◌, take}
use Rattle.sts_text.specs.Words.{lines}
use Rattle.sts_output.specs.Joined.{halves, halves_of}
use Rattle.sts_output.proofs.Splits.{IsRead}
use Rattle.sts_output.proofs.joined.split.Given as goal

-- the lines so far are text, and the rest is still to be split
abbrev pub invariant-loop-line : goal.invariant-loop-line
invariant-loop-line l = record {
  read : IsRead l.input l.before l.rest;
  text : (halves_of l.input).text ≡ take l.before l.input ++ (halves (lines l.rest)).text;
  trace : (halves_of l.input).trace ≡ (halves (lines l.rest)).trace;
}

abbrev pub decreases-loop-line : goal.decreases-loop-line
decreases-loop-line l = length l.rest
