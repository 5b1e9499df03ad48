use Rattle.std.proofs.Common.{◌≡◌, take}
use Rattle.sts_rules.specs.Edges.{follows}
use Rattle.sts_types.proofs.follow.all_edges.Given as goal

-- the first ones are there
abbrev pub invariant-loop-number : goal.invariant-loop-number
invariant-loop-number l = l.edges.items ≡ take l.number (follows l.site.program.now l.site.loops.now l.site.pc l.site.instr l.state)
