use Rattle.std.proofs.Common.{◌≡◌, ◌++◌, length}
use Rattle.look_text.specs.Wanted.{stop}
use Rattle.look_text.specs.Wrong as def
use Rattle.look_text.proofs.wrong.say_stop.Given as goal

abbrev pub invariant-loop-word : goal.invariant-loop-word
invariant-loop-word l = l.out.items ++ def.stop_words (stop l.wanted l.left) ≡ l.fn.out.items ++ def.stop_words (stop l.fn.wanted l.fn.words)

abbrev pub decreases-loop-word : goal.decreases-loop-word
decreases-loop-word l = length l.left
