use Rattle.std.proofs.Common.{◌≡◌, ◌++◌, drop, map}
use Rattle.serde_json.specs.View.{view}
use Rattle.look_views.specs.Scope as def
use Rattle.look_views.proofs.scopes.told_ends.Given as goal

-- the ends so far, and those of the rest
abbrev pub invariant-loop-told : goal.invariant-loop-told
invariant-loop-told l = map view l.list.items ++ def.told_ends l.names (drop l.told-index l.completions) ≡ def.told_ends l.names l.completions
