use Rattle.std.proofs.Common.{◌≡◌, take}
use Rattle.look_lines.specs.Watched.{watched}
use Rattle.look_lines.proofs.views.after.Given as goal

-- the machine is in the state after the first events
abbrev pub invariant-loop-i : goal.invariant-loop-i
invariant-loop-i l = l.watch ≡ watched l.program (take l.i l.events)
