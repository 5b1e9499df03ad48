use Rattle.std.proofs.Common.{◌≡◌, length, take}
use Rattle.sts_repeats.specs.Spread.{spread}
use Rattle.sts_repeats.proofs.runs.total.Given as goal

abbrev pub invariant-loop-run : goal.invariant-loop-run
invariant-loop-run g l = l.count ≡ length (spread (take l.run-index l.runs))
