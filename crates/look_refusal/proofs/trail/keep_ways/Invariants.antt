use Rattle.std.proofs.Common.{◌≡◌, ℕ, ◌<◌, ◌≤◌, length, get_or}
use Rattle.look_refusal.specs.Trail.{sum_in, no_way, better, way_from}
use Rattle.look_refusal.proofs.trail.keep_ways.Given as goal

-- the ways so far are kept, and the other entries are as they were
abbrev pub invariant-loop-depth : goal.invariant-loop-depth
invariant-loop-depth l = (length l.row ≡ 17) × ((d : ℕ) → d < l.depth → get_or l.row d no_way ≡ better (get_or l.fn.row d no_way) (way_from l.search (sum_in l.trail) l.from d)) × ((d : ℕ) → l.depth ≤ d → get_or l.row d no_way ≡ get_or l.fn.row d no_way)
