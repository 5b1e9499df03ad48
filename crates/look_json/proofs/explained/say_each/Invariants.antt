use Rattle.std.proofs.Common.{◌≡◌, ◌++◌, length}
use Rattle.std.specs.String.{string_bytes}
use Rattle.sts_text.specs.Words.{lines}
use Rattle.look_json.specs.Explained as def
use Rattle.look_json.proofs.explained.say_each.Given as goal

-- what is written, and the lines of the rest
abbrev pub invariant-loop-one : goal.invariant-loop-one
invariant-loop-one l = string_bytes l.out ++ def.each_said (lines l.rest) ≡ string_bytes l.initial.out ++ def.each_said (lines l.words)

abbrev pub decreases-loop-one : goal.decreases-loop-one
decreases-loop-one l = length l.rest
