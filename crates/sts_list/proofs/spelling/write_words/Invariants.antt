use Rattle.std.proofs.Common.{◌≡◌, ◌++◌, length}
use Rattle.sts_list.specs.Spelling.{after_spaces}
use Rattle.sts_list.proofs.spelling.write_words.Given as goal

-- what is written, and the words of the rest
abbrev pub invariant-loop-word : goal.invariant-loop-word
invariant-loop-word l = l.out.items ++ after_spaces l.left ≡ l.fn.out.items ++ after_spaces l.fn.words

abbrev pub decreases-loop-word : goal.decreases-loop-word
decreases-loop-word l = length l.left
