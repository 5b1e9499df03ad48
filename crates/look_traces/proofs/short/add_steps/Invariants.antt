use Rattle.std.proofs.Common.{◌≡◌, ◌++◌, ◌-◌}
use Rattle.std.specs.Prelude.{replicate}
use Rattle.sts_model.specs.declared.event.Event.TheVariants.{Step}
use Rattle.look_traces.proofs.short.add_steps.Given as goal

-- the steps so far, and the rest
abbrev pub invariant-loop-turn : goal.invariant-loop-turn
invariant-loop-turn l = l.events.items ++ replicate (l.times - l.turn) (Step l.task) ≡ l.fn.events.items ++ replicate l.times (Step l.task)
