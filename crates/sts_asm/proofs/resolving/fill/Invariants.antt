use Rattle.std.proofs.Common.{◌≡◌, ◌≤◌, length, take, drop, true}
use Rattle.std.specs.Prelude.{map}
use Rattle.sts_asm.specs.Kept.{are_naming, without_names, filled}
use Rattle.sts_asm.specs.Text.{instr_at}
use Rattle.sts_asm.proofs.EachLemmas.{with_front}
use Rattle.sts_asm.proofs.resolving.fill.Given as goal

abbrev pub invariant-loop-at : goal.invariant-loop-at
invariant-loop-at l = record {
  read : with_front (take l.at l.code.items) (filled (instr_at l.names) (drop l.next l.again) (drop l.at l.code.items)) ≡ filled (instr_at l.names) l.again l.initial.code.items;
  left : l.next ≤ length l.again;
  size : length l.code.items ≡ length l.initial.code.items;
  same : are_naming l.again ≡ true → map without_names l.code.items ≡ map without_names l.initial.code.items;
}
