use Rattle.std.proofs.Common.{◌≡◌, take}
use Rattle.sts_world.specs.Raising.{raise_each}
use Rattle.sts_world.proofs.changes.raise_each.Given as goal

-- those that were visited are raised
abbrev pub invariant-loop-t : goal.invariant-loop-t
invariant-loop-t l = l.tasks ≡ raise_each l.s l.fn.tasks (take l.t-index l.births)
