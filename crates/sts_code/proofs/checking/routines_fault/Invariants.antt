use Rattle.std.proofs.Common.{◌≡◌, [], take, drop}
use Rattle.sts_code.specs.Checks as def
use Rattle.sts_code.proofs.checking.routines_fault.Given as goal

-- the first fault is that of the rest
abbrev pub invariant-loop-i : goal.invariant-loop-i
invariant-loop-i l = def.routines_fault (take l.i l.functions) (drop l.i l.functions) ≡ def.routines_fault [] l.functions
