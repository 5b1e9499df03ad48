use Rattle.sts_types.specs.Passing.{PassedTo}
use Rattle.sts_types.proofs.pass.visit_all.Given as goal

-- the table has all that arrived from the places so far, and these places have no cause
abbrev pub invariant-loop-pc : goal.invariant-loop-pc
invariant-loop-pc l = PassedTo l.program l.function l.arrivals.table l.pc
