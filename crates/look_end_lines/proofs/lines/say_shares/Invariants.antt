use Rattle.std.proofs.Common.{◌≡◌, ◌++◌, drop}
use Rattle.look_end_lines.specs.Lines as def
use Rattle.look_end_lines.proofs.lines.say_shares.Given as goal

-- what is written, and the lines of the rest
abbrev pub invariant-loop-k : goal.invariant-loop-k
invariant-loop-k l = l.out.items ++ def.sampled_lines l.told.names.now l.told.program.now (drop l.k l.found) l.times l.schedules l.k ≡ l.fn.out.items ++ def.sampled_lines l.told.names.now l.told.program.now l.found l.times l.schedules 0
