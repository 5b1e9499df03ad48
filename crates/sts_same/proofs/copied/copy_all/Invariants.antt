use Rattle.std.proofs.Common.{◌≡◌, take}
use Rattle.sts_same.proofs.copied.copy_all.Given as goal

abbrev pub invariant-loop-x : goal.invariant-loop-x
invariant-loop-x g l = l.ys.items ≡ take l.x-index l.xs
