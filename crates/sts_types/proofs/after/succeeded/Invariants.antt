use Rattle.std.proofs.Common.{◌≡◌, ◌++◌, take, drop}
use Rattle.sts_rules.specs.Edges.{succeeded}
use Rattle.sts_types.proofs.after.succeeded.Given as goal

-- those that were visited are set
abbrev pub invariant-loop-kind : goal.invariant-loop-kind
invariant-loop-kind l = take l.kind-index l.kind-items ++ succeeded l.slot (drop l.kind-index l.kind-items) ≡ succeeded l.slot l.initial.kind-items
