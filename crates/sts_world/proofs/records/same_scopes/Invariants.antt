use Rattle.std.proofs.Common.{◌≡◌, take, map}
use Rattle.sts_world.specs.Scopes.{shown}
use Rattle.sts_world.proofs.records.same_scopes.Given as goal

abbrev pub invariant-loop-i : goal.invariant-loop-i
invariant-loop-i l = take l.i (map (shown l.here) l.a) ≡ take l.i (map (shown l.there) l.b)
