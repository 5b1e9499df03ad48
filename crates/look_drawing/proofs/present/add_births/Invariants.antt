use Rattle.std.proofs.Common.{◌≡◌, ◌++◌, ◌-◌}
use Rattle.std.specs.List.{range_with_len}
use Rattle.look_drawing.proofs.present.add_births.Given as goal

-- those so far, and the rest
abbrev pub invariant-loop-birth : goal.invariant-loop-birth
invariant-loop-birth l = l.births.items ++ range_with_len l.birth (l.to - l.birth) ≡ l.fn.births.items ++ range_with_len l.from (l.to - l.from)
