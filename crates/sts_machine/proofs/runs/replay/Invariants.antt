use Rattle.std.proofs.Common.{◌≡◌, take}
use Rattle.sts_machine.specs.Machine.{Stands}
use Rattle.sts_machine.proofs.runs.replay.Given as goal

-- the events so far lead to the machine
abbrev pub invariant-loop-event : goal.invariant-loop-event
invariant-loop-event l =
    (l.machine.program ≡ l.verified) × Stands l.machine (take l.event-index l.events)
