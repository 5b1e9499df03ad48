use Rattle.std.proofs.Common.{◌≡◌, take}
use Rattle.sts_same.proofs.copied.copy_items.Given as goal

abbrev pub invariant-loop-x : goal.invariant-loop-x
invariant-loop-x g l = l.ys ≡ take l.x-index l.x-items
