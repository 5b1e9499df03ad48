use Rattle.std.proofs.Common.{◌≡◌, ◌++◌, drop}
use Rattle.std.specs.String.{string_bytes}
use Rattle.look_picture.specs.LaneNames as def
use Rattle.look_picture.proofs.lane_names.lane_names.Given as goal

-- what is written, and the names of the rest
abbrev pub invariant-loop-t : goal.invariant-loop-t
invariant-loop-t l = string_bytes l.out ++ def.lane_names l.told.names.now l.told.story.now (drop l.t l.told.story.now.watched.last.tasks) l.t ≡ string_bytes l.fn.out ++ def.lane_names l.told.names.now l.told.story.now l.told.story.now.watched.last.tasks 0
