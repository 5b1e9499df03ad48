use Rattle.std.proofs.Common.{ℕ, not, sym, subst}
use Rattle.std.specs.Prelude.{count_by}
use Rattle.sts_code.specs.declared.instr.Kind.{Kind}
use Rattle.ends_picks.specs.declared.groups.Group.{Group}
use Rattle.ends_picks.specs.declared.groups.Group.TheVariants.{Of, Counted, Uncounted}
use Rattle.ends_picks.specs.Groups.{is_in}
use Rattle.ends_picks.specs.Ranges.{IsIn}
use Rattle.ends_picks.proofs.GroupLemmas.{counting_ends, counted_or_not}
use Rattle.ends_picks.proofs.tallies.ended.Goals as goal

pub returns : goal.returns
returns c pick fits =
    let j = c.args.seen.now.joiner in
    let b = c.args.succeeds in
    let count = λ (g : Group). count_by (is_in j g) pick in
    let picks = fits.picks in
    let counting = subst (λ (n : ℕ). IsIn c.counting-counting.result n) (counting_ends j b pick) (c.counting-counting.ensures pick fits) in
    let counted = c.minus-counted.ensures (count (Counted b)) (count (Counted (not b))) counting (c.range_of-others.ensures pick picks) in
    let kinds =
    subst (λ (k : Kind). IsIn c.range_of-all.result (count (Of k))) c.kind_of-kind.ensures (c.range_of-all.ensures pick picks) in
    let all = subst (λ (n : ℕ). IsIn c.range_of-all.result n) (counted_or_not j b pick) kinds in
    subst (λ (n : ℕ). IsIn c.meet_sum.result n) (sym (counted_or_not j b pick))
    (c.meet_sum.ensures (count (Counted b)) (count (Uncounted b)) all counted (c.range_of-uncounted.ensures pick picks))
