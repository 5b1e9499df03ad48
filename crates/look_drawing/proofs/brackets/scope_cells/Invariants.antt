use Rattle.std.proofs.Common.{◌≡◌, ◌++◌, take}
use Rattle.std.specs.List.{flat_map}
use Rattle.std.specs.String.{string_bytes}
use Rattle.look_drawing.specs.Brackets as def
use Rattle.look_drawing.proofs.brackets.scope_cells.Given as goal

-- the cells of those so far
abbrev pub invariant-loop-s : goal.invariant-loop-s
invariant-loop-s l = string_bytes l.out ≡ string_bytes l.fn.out ++ flat_map (def.scope_cell l.change.before.now l.change.world.now l.change.x) (take l.s-index l.scopes)
