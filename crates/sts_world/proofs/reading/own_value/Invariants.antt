use Rattle.std.proofs.Common.{◌≡◌, drop, filter_map}
use Rattle.sts_model.specs.Environment as scoped
use Rattle.sts_world.proofs.reading.own_value.Given as goal

-- the rest has the answer
abbrev pub invariant-loop-i : goal.invariant-loop-i
invariant-loop-i l = scoped.read (filter_map scoped.bound_of (drop l.i l.frame.entries)) l.k ≡ scoped.read (filter_map scoped.bound_of l.frame.entries) l.k
