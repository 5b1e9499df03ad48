use Rattle.std.proofs.Common.{◌≡◌, ◌++◌, take}
use Rattle.sts_repeats.specs.Spread.{spread}
use Rattle.sts_repeats.proofs.runs.push_runs.Given as goal

abbrev pub invariant-loop-run : goal.invariant-loop-run
invariant-loop-run g l = spread l.runs.items ≡ spread l.fn.runs.items ++ spread (take l.run-index l.more)
