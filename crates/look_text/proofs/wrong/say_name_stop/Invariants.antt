use Rattle.std.proofs.Common.{◌≡◌, length}
use Rattle.sts_asm.specs.Source.{names_at}
use Rattle.look_text.specs.Names.{name_stop}
use Rattle.look_text.proofs.NameLineLemmas.{said}
use Rattle.look_text.proofs.wrong.say_name_stop.Given as goal

abbrev pub invariant-loop-word : goal.invariant-loop-word
invariant-loop-word l =
    said l.out.items (name_stop (names_at l.fn.outline l.fn.function) l.wanted l.left)
    ≡ said l.fn.out.items (name_stop (names_at l.fn.outline l.fn.function) l.fn.wanted l.fn.words)

abbrev pub decreases-loop-word : goal.decreases-loop-word
decreases-loop-word l = length l.left
