use Rattle.std.proofs.Common.{ℕ, List, ◌++◌, ◌∙◌, ap, sym, append_assoc}
use Rattle.std.specs.List.{flat_map, range_with_len}
use Rattle.look_refusal.specs.Weights.{share_line}
use Rattle.look_refusal.proofs.WeightLemmas.{one_more}
use Rattle.look_refusal.proofs.weights.OutlinedFunction.say_shares.Goals as goal

pub loop-at-preserved : goal.loop-at-preserved
loop-at-preserved c =
    let before : List ℕ = c.args.out.now.items in
    let line : ℕ → List ℕ = share_line c.args.self.outline.now c.args.self.function c.args.ranked.shares.now in
    let at = c.loop-at.at in
    c.in_ok-say_share.ensures ∙ ap (λ (xs : List ℕ). xs ++ line at) c.loop-at.invariant
    ∙ append_assoc before (flat_map line (range_with_len 0 at)) (line at) ∙ ap (λ (xs : List ℕ). before ++ xs) (sym (one_more line at))
