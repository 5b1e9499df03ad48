use Rattle.std.proofs.Common.{◌≡◌, ◌++◌}
use Rattle.ends_plain.specs.Configs.{own_events, settled}
use Rattle.ends_plain.proofs.full_trace.add_own_steps.Given as goal

abbrev pub invariant-loop-left : goal.invariant-loop-left
invariant-loop-left l =
    (settled l.left l.setting l.way.config ≡ settled l.most l.setting l.fn.way.config)
    × (l.way.trace ++ own_events l.left l.setting l.way.config ≡ l.fn.way.trace ++ own_events l.most l.setting l.fn.way.config)

abbrev pub decreases-loop-left : goal.decreases-loop-left
decreases-loop-left l = l.left
