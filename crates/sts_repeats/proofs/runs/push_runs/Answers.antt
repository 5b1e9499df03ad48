use Rattle.std.proofs.Common.{arith}
use Rattle.sts_repeats.specs.Spread.{spread}
use Rattle.sts_repeats.proofs.RunLemmas.{runs_more}
use Rattle.sts_repeats.proofs.runs.push_runs.Goals as goal

pub loop-run-preserved : goal.loop-run-preserved
loop-run-preserved g c =
    runs_more c.args.more.now c.loop-run.run-index c.run-item.result (spread c.args.runs.now.items) (spread c.loop-run.runs.items)
    (spread c.push_run.new.runs.items) c.in_ok-copied.field-0
    (omega arith) c.run-item.is c.in_ok-copied.ensures c.loop-run.invariant c.in_ok-push_run.ensures
