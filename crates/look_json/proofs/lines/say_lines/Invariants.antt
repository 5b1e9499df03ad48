use Rattle.std.proofs.Common.{◌≡◌, ◌++◌, length}
use Rattle.std.specs.String.{string_bytes}
use Rattle.sts_text.specs.Words.{lines}
use Rattle.look_json.specs.Stories as def
use Rattle.look_json.proofs.lines.say_lines.Given as goal

-- what is written, and the lines of the rest
abbrev pub invariant-loop-line : goal.invariant-loop-line
invariant-loop-line l = string_bytes l.out ++ def.story_lines l.events (lines l.rest) ≡ string_bytes l.initial.out ++ def.story_lines l.events (lines l.story)

abbrev pub decreases-loop-line : goal.decreases-loop-line
decreases-loop-line l = length l.rest
