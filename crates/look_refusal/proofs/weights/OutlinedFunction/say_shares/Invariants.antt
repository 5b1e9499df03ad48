use Rattle.std.proofs.Common.{◌≡◌, ◌++◌}
use Rattle.std.specs.List.{flat_map, range_with_len}
use Rattle.look_refusal.specs.Weights.{share_line}
use Rattle.look_refusal.proofs.weights.OutlinedFunction.say_shares.Given as goal

-- the lines of the places so far
abbrev pub invariant-loop-at : goal.invariant-loop-at
invariant-loop-at l = l.out.items ≡ l.initial.out.items ++ flat_map (share_line l.self.outline.now l.self.function l.ranked.shares.now) (range_with_len 0 l.at)
