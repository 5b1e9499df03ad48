use Rattle.std.proofs.Common.{◌≡◌, ◌≤◌, ◌-◌, length}
use Rattle.sts_asm.specs.Kept.{AreTaken}
use Rattle.sts_asm.specs.Outline.{Outline, size_of}
use Rattle.sts_asm.proofs.kept.keep_ended.Given as goal

abbrev pub invariant-loop-alloc : goal.invariant-loop-alloc
invariant-loop-alloc l = record {
  taken : (o : Outline) → AreTaken o l.initial.outline l.initial.all.items → AreTaken o l.outline l.all.items;
  size : size_of l.outline ≡ size_of l.initial.outline;
  few : length l.all.items ≤ length l.outline.done;
}

abbrev pub decreases-loop-alloc : goal.decreases-loop-alloc
decreases-loop-alloc l = length l.outline.done - length l.all.items
