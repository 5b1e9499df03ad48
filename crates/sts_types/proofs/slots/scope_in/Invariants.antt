use Rattle.std.proofs.Common.{◌≡◌, drop}
use Rattle.sts_rules.specs.TypeState.{scope_in}
use Rattle.sts_types.proofs.slots.scope_in.Given as goal

-- the rest decides
abbrev pub invariant-loop-i : goal.invariant-loop-i
invariant-loop-i l = scope_in (drop l.i l.entries) l.slot ≡ scope_in l.entries l.slot
