use Rattle.std.proofs.Common.{◌≡◌, length}
use Rattle.look_text.specs.Colon.{is_among}
use Rattle.look_text.proofs.colon.is_among.Given as goal

-- no word so far is the name
abbrev pub invariant-loop-word : goal.invariant-loop-word
invariant-loop-word l = is_among l.name l.left ≡ is_among l.name l.fn.words

abbrev pub decreases-loop-word : goal.decreases-loop-word
decreases-loop-word l = length l.left
