use Rattle.std.proofs.Common.{◌≡◌, ◌++◌, drop, map}
use Rattle.sts_output.specs.Shown as def
use Rattle.sts_output.proofs.shown.say_shown.Given as goal

-- what is written, and the rest as it is shown
abbrev pub invariant-loop-b : goal.invariant-loop-b
invariant-loop-b l = l.out.items ++ map def.shown_byte (drop l.b-index l.line) ≡ l.fn.out.items ++ map def.shown_byte l.line
