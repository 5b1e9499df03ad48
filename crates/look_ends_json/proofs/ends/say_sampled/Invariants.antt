use Rattle.std.proofs.Common.{◌≡◌, ◌++◌, drop}
use Rattle.std.specs.String.{string_bytes}
use Rattle.look_ends_json.specs.Ends as def
use Rattle.look_ends_json.proofs.ends.say_sampled.Given as goal

-- what is written, and the lines of the rest
abbrev pub invariant-loop-k : goal.invariant-loop-k
invariant-loop-k l = string_bytes l.out ++ def.sampled_lines l.told.names.now l.told.program.now (drop l.k l.found) l.times l.k ≡ string_bytes l.fn.out ++ def.sampled_lines l.told.names.now l.told.program.now l.found l.times 0
