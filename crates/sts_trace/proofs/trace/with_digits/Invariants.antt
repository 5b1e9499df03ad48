use Rattle.std.proofs.Common.{◌≡◌, ◌<◌, ◌≤◌, ◌^◌, ◌++◌, length}
use Rattle.std.specs.Fmt.{decimal}
use Rattle.sts_trace.proofs.trace.with_digits.Given as goal

-- the digits so far are in the number
abbrev pub invariant-loop-rest : goal.invariant-loop-rest
invariant-loop-rest l = record {
  spelled : decimal l.first ++ l.text ≡ decimal l.number ++ l.rest;
  some : 0 < l.number;
  small : l.number < 2 ^ 32;
  shorter : length l.rest ≤ length l.text;
}

abbrev pub decreases-loop-rest : goal.decreases-loop-rest
decreases-loop-rest l = length l.rest
