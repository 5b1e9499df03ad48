use Rattle.sts_types.proofs.LoopMarking.{AreHeads}
use Rattle.sts_types.proofs.loops.Tables.new.Given as goal

-- the loops so far are marked
abbrev pub invariant-loop-at : goal.invariant-loop-at
invariant-loop-at l = AreHeads l.code l.heads.items l.at
