use Rattle.std.proofs.Common.{◌≡◌, ◌++◌, take, drop, map, if◌then◌else◌}
use Rattle.sts_rules.specs.declared.typing.SlotKind.TheVariants.{Empty}
use Rattle.sts_rules.specs.Edges.{is_sub_of}
use Rattle.sts_types.proofs.after.forgotten.Given as goal

-- those that were visited are cleared
abbrev pub invariant-loop-kind : goal.invariant-loop-kind
invariant-loop-kind l = take l.kind-index l.kind-items ++ map (λ k. if is_sub_of l.slot k then Empty else k) (drop l.kind-index l.kind-items) ≡ map (λ k. if is_sub_of l.slot k then Empty else k) l.initial.kind-items
