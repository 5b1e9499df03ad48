use Rattle.std.proofs.Common.{◌≡◌, drop, leb}
use Rattle.std.specs.List.{list_any}
use Rattle.sts_rules.specs.declared.typing.TypedLoop.{TypedLoop}
use Rattle.sts_types.proofs.slots.holds.Given as goal

-- the rest decides
abbrev pub invariant-loop-i : goal.invariant-loop-i
invariant-loop-i l = list_any (λ (x : TypedLoop). leb l.len x.entries) (drop l.i l.loops) ≡ list_any (λ (x : TypedLoop). leb l.len x.entries) l.loops
