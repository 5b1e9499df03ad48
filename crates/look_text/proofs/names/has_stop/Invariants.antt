use Rattle.std.proofs.Common.{◌≡◌, length}
use Rattle.std.specs.Prelude.{is_some}
use Rattle.sts_asm.specs.Source.{names_at}
use Rattle.look_text.specs.Names as def
use Rattle.look_text.proofs.names.has_stop.Given as goal

abbrev pub invariant-loop-word : goal.invariant-loop-word
invariant-loop-word l =
    is_some (def.name_stop (names_at l.fn.outline l.fn.function) l.wanted l.left)
    ≡ is_some (def.name_stop (names_at l.fn.outline l.fn.function) l.fn.wanted l.fn.words)

abbrev pub decreases-loop-word : goal.decreases-loop-word
decreases-loop-word l = length l.left
