use Rattle.std.proofs.Common.{◌≡◌, length}
use Rattle.sts_types.proofs.LoopMarking.{Marks}
use Rattle.sts_types.proofs.tables.mark.Given as goal

-- the places so far are marked
abbrev pub invariant-loop-place : goal.invariant-loop-place
invariant-loop-place l = (length l.heads.items ≡ length l.initial.heads.items) × Marks l.initial.heads.items l.heads.items l.at l.place
