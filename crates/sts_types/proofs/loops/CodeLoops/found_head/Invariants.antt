use Rattle.std.proofs.Common.{◌≡◌, slice_get}
use Rattle.sts_types.specs.Tables.{head}
use Rattle.sts_types.proofs.Nesting.{below}
use Rattle.sts_types.proofs.loops.CodeLoops.found_head.Given as goal

-- the first one lies before
abbrev pub invariant-loop-at : goal.invariant-loop-at
invariant-loop-at l = slice_get (below l.self l.place l.at) 0 ≡ head l.self l.place
