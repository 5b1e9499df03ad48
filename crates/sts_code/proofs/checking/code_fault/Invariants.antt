use Rattle.std.proofs.Common.{◌≡◌, length, drop}
use Rattle.sts_code.specs.Checks as def
use Rattle.sts_code.proofs.checking.code_fault.Given as goal

-- the first fault is that of the rest
abbrev pub invariant-loop-pc : goal.invariant-loop-pc
invariant-loop-pc l = def.code_fault l.at (length l.code) l.pc (drop l.pc l.code) ≡ def.code_fault l.at (length l.code) 0 l.code
