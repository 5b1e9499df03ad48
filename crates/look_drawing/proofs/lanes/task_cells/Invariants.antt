use Rattle.std.proofs.Common.{◌≡◌, ◌++◌, take}
use Rattle.std.specs.List.{flat_map}
use Rattle.std.specs.String.{string_bytes}
use Rattle.look_drawing.specs.Lanes as def
use Rattle.look_drawing.proofs.lanes.task_cells.Given as goal

-- the cells of those so far
abbrev pub invariant-loop-t : goal.invariant-loop-t
invariant-loop-t l = string_bytes l.out ≡ string_bytes l.fn.out ++ flat_map (def.task_cell l.change.names.now l.change.program.now l.change.before.now l.change.world.now l.change.x) (take l.t-index l.tasks)
