use Rattle.std.proofs.Common.{◌-◌}
use Rattle.sts_frames.specs.Locals.{moved_to}
use Rattle.sts_frames.proofs.local_steps.run_local.Goals as goal

pub step_at-requires-clause-safe : goal.step_at-requires-clause-safe
step_at-requires-clause-safe c = c.requires.safe (c.args.limit - c.loop-left.left) (moved_to c.loop-left.frame c.loop-left.pc) c.loop-left.invariant.local
