use Rattle.std.proofs.Common.{◌≡◌, ◌++◌, length, map}
use Rattle.sts_text.specs.Words.{words}
use Rattle.look_traces.proofs.short.add_words.Given as goal

-- the words so far, and the rest
abbrev pub invariant-loop-word : goal.invariant-loop-word
invariant-loop-word l = map (λ x. x.now) l.found.items ++ l.left ≡ map (λ x. x.now) l.fn.found.items ++ words l.line

abbrev pub decreases-loop-word : goal.decreases-loop-word
decreases-loop-word l = length l.left
