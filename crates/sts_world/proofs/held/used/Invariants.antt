use Rattle.std.proofs.Common.{◌≡◌, ◌≤◌, ◌++◌, ◌-◌, take, replicate, pos}
use Rattle.sts_world.proofs.held.used.Given as goal

-- the locals from n on are 0
abbrev pub invariant-loop-n : goal.invariant-loop-n
invariant-loop-n l = record {
  bound : l.n ≤ 16;
  rest : take l.n l.locals ++ replicate (16 - l.n) (pos 0) ≡ l.locals;
}

abbrev pub decreases-loop-n : goal.decreases-loop-n
decreases-loop-n l = l.n
