use Rattle.std.proofs.Common.{◌+◌, arith}
use Rattle.std.specs.Prelude.{replicate}
use Rattle.sts_model.specs.declared.event.Event.TheVariants.{Step}
use Rattle.look_traces.proofs.Steps.{one_row}
use Rattle.look_traces.proofs.short.add_rows.Goals as goal

pub loop-task-preserved : goal.loop-task-preserved
loop-task-preserved c = one_row (λ t. replicate c.args.times (Step t)) _ _ _ c.loop-task.task (c.args.last + 1) (omega arith)
    c.in_ok-add_steps.ensures c.loop-task.invariant
