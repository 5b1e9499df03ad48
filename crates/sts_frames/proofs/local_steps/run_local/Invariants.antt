use Rattle.std.proofs.Common.{◌≡◌, ◌<◌, ◌≤◌, ◌-◌, ◌^◌, Some}
use Rattle.sts_frames.specs.Locals.{moved_to, locals}
use Rattle.sts_frames.proofs.local_steps.run_local.Given as goal

abbrev pub invariant-loop-left : goal.invariant-loop-left
invariant-loop-left l = record {
  most : l.left ≤ l.limit;
  fits : l.pc < 2 ^ 32;
  program : l.program ≡ l.initial.program;
  local : locals l.code l.initial.frame (l.limit - l.left) ≡ Some (moved_to l.frame l.pc);
}

abbrev pub decreases-loop-left : goal.decreases-loop-left
decreases-loop-left l = l.left
