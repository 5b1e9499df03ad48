use Rattle.std.proofs.Common.{◌≡◌, ◌++◌, drop, map}
use Rattle.std.specs.String.{string_bytes}
use Rattle.sts_output.proofs.texts.borrowed.Given as goal

-- the words that were borrowed, and the rest
abbrev pub invariant-loop-i : goal.invariant-loop-i
invariant-loop-i l = map (λ w. w.now) l.texts.items ++ map string_bytes (drop l.i l.words) ≡ map string_bytes l.words
