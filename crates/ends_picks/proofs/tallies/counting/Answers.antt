use Rattle.std.proofs.Common.{ℕ, sym, subst}
use Rattle.laws_calls.specs.Fitting.{MayCount}
use Rattle.ends_picks.proofs.GroupLemmas.{counting_heard}
use Rattle.ends_picks.proofs.tallies.counting.Goals as goal

pub returns : goal.returns
returns c pick fits =
    let x = c.args.seen.now in
    let may = subst (λ (n : ℕ). MayCount x.knowledge x.phase x.joiner n) (sym (counting_heard x.joiner pick)) fits.counts in
    let picks = fits.picks in
    c.meet.ensures _ (c.range_of-range.ensures pick picks) (c.allowed-allowed.ensures _ may)
