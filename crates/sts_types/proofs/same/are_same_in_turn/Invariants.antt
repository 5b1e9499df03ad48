use Rattle.std.proofs.Common.{◌≡◌, take}
use Rattle.sts_types.proofs.same.are_same_in_turn.Given as goal

-- those so far are the same
abbrev pub invariant-loop-i : goal.invariant-loop-i
invariant-loop-i l = take l.i l.a ≡ take l.i l.b
