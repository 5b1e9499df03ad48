use Rattle.std.proofs.Common.{◌≡◌, ◌++◌, drop, map}
use Rattle.serde_json.specs.View.{view}
use Rattle.look_views.specs.Task as def
use Rattle.look_views.proofs.frames.bindings.Given as goal

-- the bindings so far, and those of the rest
abbrev pub invariant-loop-key : goal.invariant-loop-key
invariant-loop-key l = map view l.list.items ++ def.bindings l.records l.t (drop l.key-index l.keys) ≡ def.bindings l.records l.t l.keys
