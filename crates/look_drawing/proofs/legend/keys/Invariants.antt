use Rattle.std.proofs.Common.{◌≡◌, ◌≤◌, ◌++◌, drop, length}
use Rattle.std.specs.Prelude.{filter}
use Rattle.look_drawing.specs.Legend.{is_drawn}
use Rattle.look_drawing.proofs.legend.keys.Given as goal

-- those so far, and those of the rest
abbrev pub invariant-loop-mark : goal.invariant-loop-mark
invariant-loop-mark l = record {
  found : l.found.items ++ filter (is_drawn l.columns) (drop l.mark-index l.marks) ≡ filter (is_drawn l.columns) l.marks;
  few : length l.found.items ≤ l.mark-index;
}
