use Rattle.std.proofs.Common.{◌≡◌, drop}
use Rattle.sts_asm.specs.Source.{names_at}
use Rattle.look_text.specs.Names.{lines_stop}
use Rattle.look_text.proofs.wrong.line_of_no_name.Given as goal

-- no word of the lines so far names nothing
abbrev pub invariant-loop-sentence : goal.invariant-loop-sentence
invariant-loop-sentence l =
    lines_stop (names_at l.fn.outline l.fn.function) l.sentence-items
    ≡ lines_stop (names_at l.fn.outline l.fn.function) (drop l.sentence-index l.sentence-items)
