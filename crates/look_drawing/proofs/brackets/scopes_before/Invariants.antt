use Rattle.std.proofs.Common.{◌≡◌, ◌+◌, ◌≤◌, drop}
use Rattle.std.specs.List.{count_by}
use Rattle.look_drawing.specs.Place.{is_before}
use Rattle.look_drawing.proofs.brackets.scopes_before.Given as goal

-- those counted so far, and those of the rest
abbrev pub invariant-loop-i : goal.invariant-loop-i
invariant-loop-i l = record {
  counted : l.count + count_by (is_before l.s) (drop l.i l.entries) ≡ count_by (is_before l.s) l.entries;
  few : l.count ≤ l.i;
}
