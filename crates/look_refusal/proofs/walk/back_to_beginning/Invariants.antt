use Rattle.std.proofs.Common.{◌≡◌, ◌+◌, length}
use Rattle.look_refusal.specs.Search.{IsSpot, paths, flow}
use Rattle.look_refusal.specs.Walk.{AreParts, rest_in}
use Rattle.look_refusal.proofs.Walking.{IsOpenWalk}
use Rattle.look_refusal.proofs.walk.back_to_beginning.Given as goal

-- the walk back so far, out of some loops
abbrev pub invariant-loop-head : goal.invariant-loop-head
invariant-loop-head l = IsOpenWalk (paths l.search) (flow l.search) l.at l.fn.to l.initial.shares l.shares × IsSpot l.search l.at × (length l.shares.places.items ≡ length l.search.code.now) × AreParts l.shares × (l.shares.total + rest_in l.search l.trail l.at ≡ l.initial.shares.total + rest_in l.search l.trail l.fn.to)

abbrev pub decreases-loop-head : goal.decreases-loop-head
decreases-loop-head l = l.at.place
