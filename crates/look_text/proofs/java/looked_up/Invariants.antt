use Rattle.std.proofs.Common.{◌≡◌, drop, map}
use Rattle.sts_asm.specs.Operand.{looked_up}
use Rattle.look_text.proofs.java.looked_up.Given as goal

-- no row so far has the name
abbrev pub invariant-loop-row : goal.invariant-loop-row
invariant-loop-row l =
    looked_up (map (λ r. (r.0.now, r.1.now)) l.rows) l.name ≡ looked_up (map (λ r. (r.0.now, r.1.now)) (drop l.row-index l.rows)) l.name
