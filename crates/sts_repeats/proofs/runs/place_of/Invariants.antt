use Rattle.std.proofs.Common.{◌≡◌, ◌+◌, length, take}
use Rattle.sts_repeats.specs.Spread.{spread}
use Rattle.sts_repeats.proofs.runs.place_of.Given as goal

abbrev pub invariant-loop-i : goal.invariant-loop-i
invariant-loop-i g l = length (spread (take l.i l.runs)) + l.left ≡ l.at
