use Rattle.std.proofs.Common.{◌≡◌, ◌-◌, drop}
use Rattle.sts_frames.proofs.copies.fill.Given as goal

-- the lowest values so far
abbrev pub invariant-loop-i : goal.invariant-loop-i
invariant-loop-i g l = l.stack ≡ drop (l.len - l.i) l.from
