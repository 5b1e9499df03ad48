use Rattle.std.proofs.Common.{◌≡◌, ◌+◌, drop}
use Rattle.look_text.specs.Wrong as def
use Rattle.look_text.proofs.wrong.byte_line.Given as goal

-- the bytes so far are allowed
abbrev pub invariant-loop-at : goal.invariant-loop-at
invariant-loop-at l =
    (l.out.items ≡ l.initial.out.items)
    × (def.byte_line 1 l.fn.line ≡ def.byte_line (l.at + 1) (drop l.at l.fn.line))
