use Rattle.std.proofs.Common.{◌≡◌, drop}
use Rattle.sts_model.specs.Misuse as misuse
use Rattle.sts_plain.proofs.frame_tests.has_later_binding.Given as goal

-- the rest has the answer
abbrev pub invariant-loop-i : goal.invariant-loop-i
invariant-loop-i l = misuse.binds_after l.s (drop l.i l.frame.entries) ≡ misuse.binds_after l.s l.frame.entries
