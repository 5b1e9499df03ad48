use Rattle.std.specs.String.{string_bytes}
use Rattle.look_refusal.specs.Differences as def
use Rattle.look_refusal.proofs.differences.Compared.write_slots.Given as goal

abbrev pub invariant-loop-slot : goal.invariant-loop-slot
invariant-loop-slot l = def.Writes l.self (def.slots l.slot) (string_bytes l.fn.out) (string_bytes l.out)
