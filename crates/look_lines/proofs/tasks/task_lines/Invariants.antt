use Rattle.std.proofs.Common.{◌≡◌, ◌++◌, drop}
use Rattle.std.specs.String.{string_bytes}
use Rattle.look_lines.specs.Lines as def
use Rattle.look_lines.proofs.tasks.task_lines.Given as goal

-- what is written, and the lines of the rest
abbrev pub invariant-loop-t : goal.invariant-loop-t
invariant-loop-t g l = string_bytes l.out ++ def.task_lines (g.N.Naming.names l.naming) l.program l.wanted l.world (drop l.t l.world.tasks) l.t ≡ string_bytes l.fn.out ++ def.task_lines (g.N.Naming.names l.naming) l.program l.wanted l.world l.world.tasks 0
