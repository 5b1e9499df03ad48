use Rattle.std.proofs.Common.{◌≡◌, ◌++◌, take, drop}
use Rattle.sts_model.specs.Effect as effect
use Rattle.sts_world.proofs.records.Records.clear.Given as goal

-- those that were visited are cleared
abbrev pub invariant-loop-x : goal.invariant-loop-x
invariant-loop-x l = take l.x-index l.slots ++ effect.cleared l.self l.s (drop l.x-index l.slots) ≡ effect.cleared l.self l.s l.fn.slots
