use Rattle.std.proofs.Common.{◌≡◌, take}
use Rattle.ends_table.proofs.forks.listed.Given as goal

abbrev pub invariant-loop-value : goal.invariant-loop-value
invariant-loop-value l = l.list ≡ take l.value-index l.values
