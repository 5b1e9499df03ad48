use Rattle.std.proofs.Common.{◌≡◌, ◌++◌, drop, map}
use Rattle.serde_json.specs.View.{view}
use Rattle.look_views.specs.Task as def
use Rattle.look_views.proofs.frames.integers.Given as goal

-- the values so far, and those of the rest
abbrev pub invariant-loop-value : goal.invariant-loop-value
invariant-loop-value l = map view l.list.items ++ def.integers (drop l.value-index l.values) ≡ def.integers l.values
