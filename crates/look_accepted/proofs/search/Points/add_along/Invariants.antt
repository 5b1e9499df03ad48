use Rattle.std.proofs.Common.{take}
use Rattle.look_accepted.specs.Points.{IsAlong, Adds}
use Rattle.look_accepted.proofs.search.Points.add_along.Given as goal

-- the points at the places so far were added
abbrev pub invariant-loop-to : goal.invariant-loop-to
invariant-loop-to l = Adds l.initial.self.found.items (IsAlong l.typing l.instr l.point (take l.to-index l.places)) l.self.found.items
