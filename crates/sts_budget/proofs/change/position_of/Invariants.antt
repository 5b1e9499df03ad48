use Rattle.std.proofs.Common.{◌≡◌, drop}
use Rattle.sts_budget.specs.Change as def
use Rattle.sts_budget.specs.TypedNames.{names}
use Rattle.sts_budget.proofs.change.position_of.Given as goal

-- the scope is among the rest
abbrev pub invariant-loop-i : goal.invariant-loop-i
invariant-loop-i l = def.position_of l.slot (names (drop l.i l.entries)) ≡ def.position_of l.slot (names l.entries)
