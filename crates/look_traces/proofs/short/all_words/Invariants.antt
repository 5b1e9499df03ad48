use Rattle.std.proofs.Common.{◌≡◌, ◌++◌, length, map}
use Rattle.look_traces.specs.Short.{all_words}
use Rattle.look_traces.proofs.short.all_words.Given as goal

-- the words so far, and those of the rest
abbrev pub invariant-loop-line : goal.invariant-loop-line
invariant-loop-line l = map (λ x. x.now) l.found.items ++ all_words l.rest ≡ all_words l.text

abbrev pub decreases-loop-line : goal.decreases-loop-line
decreases-loop-line l = length l.rest
