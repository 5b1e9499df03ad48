use Rattle.std.proofs.Common.{◌≡◌, length, take}
use Rattle.sts_rules.specs.Edges.{follows}
use Rattle.sts_types.specs.Arrivals.{Arrive}
use Rattle.sts_types.proofs.pass.spread.Given as goal

-- the first ones have arrived
abbrev pub invariant-loop-number : goal.invariant-loop-number
invariant-loop-number l = (l.arrivals.start ≡ l.initial.arrivals.state) × (length l.arrivals.table ≡ length l.initial.arrivals.table) × Arrive l.initial.arrivals.table (take l.number (follows l.site.program.now l.site.loops.now l.site.pc l.site.instr l.initial.arrivals.state)) l.arrivals.table
