use Rattle.std.proofs.Common.{◌≡◌, drop}
use Rattle.sts_rules.specs.Causes.{binds_after}
use Rattle.sts_types.proofs.slots.binds_after.Given as goal

-- the rest decides
abbrev pub invariant-loop-i : goal.invariant-loop-i
invariant-loop-i l = binds_after l.slot (drop l.i l.entries) ≡ binds_after l.slot l.entries
