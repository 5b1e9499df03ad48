use Rattle.std.proofs.Common.{◌≡◌, ◌++◌, drop}
use Rattle.std.specs.String.{string_bytes}
use Rattle.look_ends_json.specs.Calls as def
use Rattle.look_ends_json.proofs.calls.say_call_ends.Given as goal

-- what is written, and the lines of the rest
abbrev pub invariant-loop-k : goal.invariant-loop-k
invariant-loop-k l = string_bytes l.out ++ def.call_lines l.told.names.now l.told.program.now (drop l.k l.found) l.k ≡ string_bytes l.fn.out ++ def.call_lines l.told.names.now l.told.program.now l.found 0
