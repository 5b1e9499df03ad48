use Rattle.std.proofs.Common.{◌≡◌, ◌++◌, drop}
use Rattle.look_run.specs.Lines as def
use Rattle.look_run.proofs.states.Told.say_living.Given as goal

-- what is written, and the lines of the rest
abbrev pub invariant-loop-t : goal.invariant-loop-t
invariant-loop-t l = l.out.items ++ def.living_lines l.self.names.now l.self.program.now l.world (drop l.t l.world.tasks) l.t ≡ l.fn.out.items ++ def.living_lines l.self.names.now l.self.program.now l.world l.world.tasks 0
