-- An instruction that a state and its call allow (this project's own).
use Rattle.sts_code.specs.declared.instr.Instr.{Instr}
use Rattle.ends_faults.specs.Safe.{IsAllowed}
use Rattle.ends_faults.specs.declared.safe.Around.{Around}

abbrev pub Allows : Around → Instr → Type 0
Allows a i = IsAllowed a.program.now a.call.now a.own.now i
