use Rattle.std.proofs.Common.{◌≡◌, ◌++◌, drop, codes}
use Rattle.std.specs.List.{flat_map}
use Rattle.look_names.specs.Words.{value_words}
use Rattle.look_names.proofs.words.say_more.Given as goal

-- what is written, and the words of the rest
abbrev pub invariant-loop-value : goal.invariant-loop-value
invariant-loop-value l = l.out.items ++ flat_map (λ x. codes ", " ++ value_words l.names x) (drop l.value-index l.values) ≡ l.fn.out.items ++ flat_map (λ x. codes ", " ++ value_words l.names x) l.values
