use Rattle.std.proofs.Common.{◌≡◌, drop}
use Rattle.ends_faults.specs.Safe as def
use Rattle.ends_faults.proofs.entries.binds_after.Given as goal

-- the rest has the answer
abbrev pub invariant-loop-i : goal.invariant-loop-i
invariant-loop-i l = def.binds_after l.place (drop l.i l.frame.entries) ≡ def.binds_after l.place l.frame.entries
