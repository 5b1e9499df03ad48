use Rattle.std.proofs.Common.{◌≡◌, drop, bytes_eq}
use Rattle.sts_rules.specs.Around.{around}
use Rattle.sts_rules.specs.TypeState.{heads}
use Rattle.sts_types.proofs.loops.CodeLoops.are_around.Given as goal

-- what is left to compare decides
abbrev pub invariant-loop-i : goal.invariant-loop-i
invariant-loop-i l = bytes_eq (around l.self l.place) (drop l.i (heads l.loops)) ≡ bytes_eq (around l.self l.initial.place) (drop l.closed (heads l.loops))
