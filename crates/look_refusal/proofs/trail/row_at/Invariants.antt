use Rattle.std.proofs.Common.{take}
use Rattle.look_refusal.specs.Trail.{sum_in, IsRowOf}
use Rattle.look_refusal.proofs.trail.row_at.Given as goal

-- the best of the ways from the places so far
abbrev pub invariant-loop-from : goal.invariant-loop-from
invariant-loop-from l = IsRowOf l.search (sum_in l.trail) (take l.from-index l.leads) l.to l.row
