use Rattle.std.proofs.Common.{◌≡◌, ◌+◌, ◌≤◌, not, length, take}
use Rattle.std.specs.List.{suffix_len}
use Rattle.look_text.specs.Java.{is_joint}
use Rattle.look_text.proofs.java.after_joints.Given as goal

-- no joint from here to the end
abbrev pub invariant-loop-start : goal.invariant-loop-start
invariant-loop-start l =
    (l.start ≤ length l.bytes)
    × (l.start + suffix_len (λ b. not (is_joint b)) l.bytes ≡ length l.bytes + suffix_len (λ b. not (is_joint b)) (take l.start l.bytes))

abbrev pub decreases-loop-start : goal.decreases-loop-start
decreases-loop-start l = l.start
