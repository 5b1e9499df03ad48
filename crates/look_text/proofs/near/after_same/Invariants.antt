use Rattle.std.proofs.Common.{◌≡◌, length}
use Rattle.look_text.specs.Near.{begins_other, is_one_apart}
use Rattle.look_text.proofs.near.after_same.Given as goal

-- both begin alike so far
abbrev pub invariant-loop-word : goal.invariant-loop-word
invariant-loop-word l = record {
  apart : is_one_apart l.word l.known ≡ is_one_apart l.fn.word l.fn.known;
  begins : begins_other l.word l.known ≡ begins_other l.fn.word l.fn.known;
}

abbrev pub decreases-loop-word : goal.decreases-loop-word
decreases-loop-word l = length l.word
