use Rattle.std.proofs.Common.{◌≡◌, ◌++◌, length}
use Rattle.sts_text.specs.Words.{lines}
use Rattle.look_places.specs.Reports as def
use Rattle.look_places.proofs.marks.Source.say_notes.Given as goal

-- what is written, and the notes on the rest
abbrev pub invariant-loop-one : goal.invariant-loop-one
invariant-loop-one l = l.out.items ++ def.notes l.self l.line (lines l.rest) ≡ l.initial.out.items ++ def.notes l.self l.line (lines l.words)

abbrev pub decreases-loop-one : goal.decreases-loop-one
decreases-loop-one l = length l.rest
