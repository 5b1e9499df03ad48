use Rattle.std.proofs.Common.{◌≡◌, ◌-◌, length, drop}
use Rattle.sts_types.proofs.same.copy_stack.Given as goal

-- the copy has what lies below
abbrev pub invariant-loop-i : goal.invariant-loop-i
invariant-loop-i g l = l.copy ≡ drop (length l.stack - l.i) l.stack
