use Rattle.std.proofs.Common.{◌≡◌, ◌++◌, take}
use Rattle.laws_calls.proofs.copies.push_copies.Given as goal

abbrev pub invariant-loop-x : goal.invariant-loop-x
invariant-loop-x g l = l.ys ≡ l.fn.ys ++ take l.x-index l.xs
