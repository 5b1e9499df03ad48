use Rattle.std.proofs.Common.{◌≡◌, ◌++◌, drop}
use Rattle.std.specs.String.{string_bytes}
use Rattle.look_drawing.specs.Legend as def
use Rattle.look_drawing.proofs.legend.legend.Given as goal

-- what is written, and the keys of the rest
abbrev pub invariant-loop-i : goal.invariant-loop-i
invariant-loop-i l = string_bytes l.out ++ def.legend_from l.i (drop l.i l.keys) ≡ string_bytes l.fn.out ++ def.legend_from 0 l.keys
