use Rattle.std.proofs.Common.{◌≡◌, ◌++◌, take, drop, map}
use Rattle.laws_calls.specs.Steps.{clear}
use Rattle.ends_table.proofs.scopes.cleared.Given as goal

-- those that were visited are cleared
abbrev pub invariant-loop-held : goal.invariant-loop-held
invariant-loop-held l = take l.held-index l.held-items ++ map (clear l.place) (drop l.held-index l.held-items) ≡ map (clear l.place) l.initial.held-items
