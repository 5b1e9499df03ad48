use Rattle.std.proofs.Common.{◌≡◌, ◌≤◌}
use Rattle.std.specs.Prelude.{sum_by}
use Rattle.std.specs.List.{range_with_len}
use Rattle.look_refusal.specs.Weights.{is_other, one_if}
use Rattle.look_refusal.proofs.weights.Ranked.others.Given as goal

-- those so far
abbrev pub invariant-loop-one : goal.invariant-loop-one
invariant-loop-one l = (l.count ≤ l.one) × (l.count ≡ sum_by (λ x. one_if (is_other l.self.shares.now x)) (range_with_len 0 l.one))
