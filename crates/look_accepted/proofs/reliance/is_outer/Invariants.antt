use Rattle.std.proofs.Common.{◌≡◌, drop}
use Rattle.look_accepted.specs.Relying as def
use Rattle.look_accepted.proofs.reliance.is_outer.Given as goal

-- the rest decides
abbrev pub invariant-loop-i : goal.invariant-loop-i
invariant-loop-i l = def.is_outer l.slot l.outer (drop l.i l.entries) ≡ def.is_outer l.slot l.outer l.entries
