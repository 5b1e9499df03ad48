use Rattle.std.proofs.Common.{◌≡◌, ◌+◌, drop}
use Rattle.sts_remarks.specs.Idle as def
use Rattle.sts_remarks.proofs.idle.first_idle_after.Given as goal

-- each event so far counted, so the line is the one for the rest of them
abbrev pub invariant-loop-i : goal.invariant-loop-i
invariant-loop-i l =
    def.first_idle l.unit l.program l.position (l.i + 1) (drop l.i l.events) ≡ def.first_idle l.unit l.program l.initial.position 1 l.events
