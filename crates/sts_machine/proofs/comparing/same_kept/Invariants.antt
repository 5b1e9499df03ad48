use Rattle.std.proofs.Common.{◌≡◌, take}
use Rattle.sts_machine.proofs.comparing.same_kept.Given as goal

-- those so far are the same
abbrev pub invariant-loop-i : goal.invariant-loop-i
invariant-loop-i l = take l.i l.a ≡ take l.i l.b
