use Rattle.std.proofs.Common.{◌≡◌, drop}
use Rattle.std.specs.List.{list_any}
use Rattle.sts_rules.specs.Causes.{binds}
use Rattle.sts_types.proofs.slots.has_binding.Given as goal

-- the rest decides
abbrev pub invariant-loop-i : goal.invariant-loop-i
invariant-loop-i l = list_any (binds l.key) (drop l.i l.entries) ≡ list_any (binds l.key) l.entries
