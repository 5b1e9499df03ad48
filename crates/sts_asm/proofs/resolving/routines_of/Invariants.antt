use Rattle.std.proofs.Common.{◌≡◌}
use Rattle.std.specs.Vec.Iter.{into_iter_items}
use Rattle.sts_asm.specs.Kept.{routine_of}
use Rattle.sts_asm.specs.Text.{each}
use Rattle.sts_asm.proofs.EachLemmas.{with_front}
use Rattle.sts_asm.proofs.resolving.routines_of.Given as goal

abbrev pub invariant-loop-kept : goal.invariant-loop-kept
invariant-loop-kept l = with_front l.routines.items (each (routine_of l.functions) (into_iter_items l.kept-iterator)) ≡ each (routine_of l.functions) l.fn.all.items
