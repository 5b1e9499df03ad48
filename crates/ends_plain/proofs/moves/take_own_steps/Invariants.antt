use Rattle.std.proofs.Common.{◌≡◌}
use Rattle.ends_plain.specs.Configs.{settled}
use Rattle.ends_plain.proofs.moves.take_own_steps.Given as goal

abbrev pub invariant-loop-left : goal.invariant-loop-left
invariant-loop-left l = settled l.left l.setting l.config ≡ settled l.most l.setting l.fn.config

abbrev pub decreases-loop-left : goal.decreases-loop-left
decreases-loop-left l = l.left
