use Rattle.std.proofs.Common.{◌≡◌, ◌-◌, List}
use Rattle.sts_model.specs.World.{opening}
use Rattle.sts_model.specs.declared.event.Event.{Event}
use Rattle.sts_machine.specs.Machine.{Stands}
use Rattle.sts_machine.specs.Whole.{AreSteps}
use Rattle.sts_machine.proofs.runs.run_alone.Given as goal

-- some steps lead to the machine, and each of them counts
abbrev pub invariant-loop-task : goal.invariant-loop-task
invariant-loop-task l =
    (l.machine.program ≡ l.verified) × ((events : List Event) × (AreSteps l.verified (opening l.verified) events × Stands l.machine events))

-- no run takes more steps
abbrev pub decreases-loop-task : goal.decreases-loop-task
decreases-loop-task l = 1000000 - l.machine.steps
