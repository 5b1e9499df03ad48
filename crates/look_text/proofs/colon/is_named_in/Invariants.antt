use Rattle.std.proofs.Common.{◌≡◌, length}
use Rattle.sts_text.specs.Words.{lines}
use Rattle.look_text.specs.Colon.{is_named_in}
use Rattle.look_text.proofs.colon.is_named_in.Given as goal

-- no line so far has the name
abbrev pub invariant-loop-after : goal.invariant-loop-after
invariant-loop-after l = is_named_in (lines l.rest) l.name ≡ is_named_in (lines l.text) l.name

abbrev pub decreases-loop-after : goal.decreases-loop-after
decreases-loop-after l = length l.rest
