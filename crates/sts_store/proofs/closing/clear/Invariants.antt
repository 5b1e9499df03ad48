use Rattle.std.proofs.Common.{◌≡◌, ◌++◌, take, drop}
use Rattle.sts_store.specs.Closing.{slots_cleared}
use Rattle.sts_store.proofs.closing.clear.Given as goal

-- those that were visited are cleared
abbrev pub invariant-loop-x : goal.invariant-loop-x
invariant-loop-x l = take l.x-index l.slots ++ slots_cleared l.tree l.s (drop l.x-index l.slots) ≡ slots_cleared l.tree l.s l.fn.slots
