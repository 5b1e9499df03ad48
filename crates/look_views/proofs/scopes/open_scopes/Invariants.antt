use Rattle.std.proofs.Common.{◌≡◌, ◌++◌, drop, map}
use Rattle.serde_json.specs.View.{view}
use Rattle.look_views.specs.Scope as def
use Rattle.look_views.proofs.scopes.open_scopes.Given as goal

-- the scopes so far, and those of the rest
abbrev pub invariant-loop-s : goal.invariant-loop-s
invariant-loop-s l = map view l.list.items ++ def.open_scopes l.names l.full l.records (drop l.s l.records.scopes) l.s ≡ def.open_scopes l.names l.full l.records l.records.scopes 0
