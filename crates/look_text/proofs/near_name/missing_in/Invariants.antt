use Rattle.std.proofs.Common.{◌≡◌, length}
use Rattle.sts_asm.specs.Source.{names_at}
use Rattle.look_text.specs.Names.{name_stop}
use Rattle.look_text.specs.NearName.{missing}
use Rattle.look_text.proofs.near_name.missing_in.Given as goal

-- the words so far name something
abbrev pub invariant-loop-word : goal.invariant-loop-word
invariant-loop-word l =
    missing (name_stop (names_at l.outline l.function) l.wanted l.left)
    ≡ missing (name_stop (names_at l.outline l.function) l.fn.wanted l.fn.words)

abbrev pub decreases-loop-word : goal.decreases-loop-word
decreases-loop-word l = length l.left
