use Rattle.std.proofs.Common.{◌≡◌, ◌++◌, drop}
use Rattle.look_end_lines.specs.Lines as def
use Rattle.look_end_lines.proofs.lines.say_all.Given as goal

-- what is written, and the lines of the rest
abbrev pub invariant-loop-k : goal.invariant-loop-k
invariant-loop-k l = l.out.items ++ def.found_lines l.told.names.now l.told.program.now (drop l.k l.found) l.k ≡ l.fn.out.items ++ def.found_lines l.told.names.now l.told.program.now l.found 0
