use Rattle.std.proofs.Common.{◌≡◌, ◌++◌, drop, map}
use Rattle.serde_json.specs.View.{view}
use Rattle.look_views.specs.Task as def
use Rattle.look_views.proofs.tasks.tasks.Given as goal

-- the tasks so far, and those of the rest
abbrev pub invariant-loop-t : goal.invariant-loop-t
invariant-loop-t l = map view l.list.items ++ def.tasks l.names l.watch.program l.full l.watch.last (drop l.t l.watch.last.tasks) l.t ≡ def.tasks l.names l.watch.program l.full l.watch.last l.watch.last.tasks 0
