use Rattle.std.proofs.Common.{◌≡◌, take}
use Rattle.sts_same.proofs.same.same_slices.Given as goal

abbrev pub invariant-loop-i : goal.invariant-loop-i
invariant-loop-i g l = take l.i l.a ≡ take l.i l.b
