use Rattle.std.proofs.Common.{◌≡◌, map, take}
use Rattle.laws_calls.specs.Steps.{ended}
use Rattle.sts_repeats.specs.Spread.{spread}
use Rattle.ends_table.proofs.parts.all_ended.Given as goal

abbrev pub invariant-loop-run : goal.invariant-loop-run
invariant-loop-run l = spread l.after.items ≡ map ended (spread (take l.run-index l.run-items))
