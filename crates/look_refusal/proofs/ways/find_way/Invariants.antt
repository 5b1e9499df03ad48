use Rattle.std.proofs.Common.{ℕ, ◌<◌, option_copied}
use Rattle.look_refusal.specs.Ways as def
use Rattle.look_refusal.proofs.ways.find_way.Given as goal

abbrev pub invariant-loop-from : goal.invariant-loop-from
invariant-loop-from l = (from : ℕ) → from < l.from → def.ArriveAlike l.program l.function l.to (option_copied l.known) from
