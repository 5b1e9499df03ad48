use Rattle.std.proofs.Common.{◌≡◌, length}
use Rattle.sts_asm.specs.Outline.{with_keys}
use Rattle.sts_asm.proofs.outline.with_keys.Given as goal

abbrev pub invariant-loop-word : goal.invariant-loop-word
invariant-loop-word l = with_keys l.needs l.rest ≡ with_keys l.fn.needs l.fn.rest

abbrev pub decreases-loop-word : goal.decreases-loop-word
decreases-loop-word l = length l.rest
