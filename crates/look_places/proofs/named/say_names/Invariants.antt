use Rattle.std.proofs.Common.{◌≡◌, ◌++◌, false, length}
use Rattle.look_places.specs.Named as def
use Rattle.look_places.proofs.named.say_names.Given as goal

-- what is written, and the names in the rest
abbrev pub invariant-loop-word : goal.invariant-loop-word
invariant-loop-word l = l.out.items ++ def.names_in l.names l.is_number l.left ≡ l.fn.out.items ++ def.names_in l.names false l.fn.words

abbrev pub decreases-loop-word : goal.decreases-loop-word
decreases-loop-word l = length l.left
