use Rattle.std.proofs.Common.{◌≡◌, ◌++◌, ◌+◌, ◌-◌}
use Rattle.std.specs.Prelude.{replicate}
use Rattle.std.specs.List.{flat_map, range_with_len}
use Rattle.sts_model.specs.declared.event.Event.TheVariants.{Step}
use Rattle.look_traces.proofs.short.add_rows.Given as goal

-- the steps so far, and those of the other tasks
abbrev pub invariant-loop-task : goal.invariant-loop-task
invariant-loop-task l = l.events.items ++ flat_map (λ t. replicate l.times (Step t)) (range_with_len l.task (l.last + 1 - l.task)) ≡ l.fn.events.items ++ flat_map (λ t. replicate l.times (Step t)) (range_with_len l.first (l.last + 1 - l.first))
