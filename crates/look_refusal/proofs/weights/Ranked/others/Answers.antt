use Rattle.std.proofs.Common.{◌+◌, ℕ, ◌∙◌, ap, sym, arith}
use Rattle.std.specs.Prelude.{sum_by}
use Rattle.std.specs.List.{range_with_len}
use Rattle.look_refusal.specs.Weights.{is_other, one_if}
use Rattle.look_refusal.proofs.WeightLemmas.{sum_more}
use Rattle.look_refusal.proofs.weights.Ranked.others.Goals as goal

pub loop-one-preserved : goal.loop-one-preserved
loop-one-preserved c =
    let here = c.one_if-count.ensures.value ∙ ap one_if c.is_other.ensures in
    let f : ℕ → ℕ = λ x. one_if (is_other c.args.self.shares.now x) in (
      omega (arith, c.one_if-count.ensures.small, c.loop-one.invariant.0),
      ap (λ (n : ℕ). n + c.one_if-count.result) c.loop-one.invariant.1 ∙ ap (λ (n : ℕ). sum_by f (range_with_len 0 c.loop-one.one) + n) here
          ∙ sym (sum_more f c.loop-one.one),
    )
