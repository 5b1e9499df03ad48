use Rattle.std.proofs.Common.{◌≡◌, ◌++◌, take}
use Rattle.ends_table.proofs.bindings.bindings.Given as goal

abbrev pub invariant-loop-bound : goal.invariant-loop-bound
invariant-loop-bound l = l.found ≡ l.initial.found ++ take l.bound-index l.bound-items
