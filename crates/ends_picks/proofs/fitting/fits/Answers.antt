use Rattle.std.proofs.Common.{◌≡◌, true, sym, ◌∙◌, subst}
use Rattle.laws_calls.specs.Fitting.{Agrees}
use Rattle.ends_picks.specs.declared.outcomes.Outcome.{Outcome}
use Rattle.ends_picks.specs.Bounds.{counts_fit}
use Rattle.ends_picks.proofs.OutcomeLemmas.{counts_are_fit, successes_fit, failures_fit, unavailable_fit, total_fits}
use Rattle.ends_picks.proofs.fitting.fits.Goals as goal

pub returns : goal.returns
returns c pick fits e =
    let x = c.args.seen.now in
    let counts = subst (λ (o : Outcome). counts_fit x.knowledge x.phase x.joiner o.triggers o.triggers ≡ true) (sym e)
    (counts_are_fit x pick fits) in
    let s = subst (λ (o : Outcome). Agrees x.asked.successes o.successes) (sym e) (successes_fit x pick fits) in
    let f = subst (λ (o : Outcome). Agrees x.asked.failures o.failures) (sym e) (failures_fit x pick fits) in
    let u = subst (λ (o : Outcome). Agrees x.asked.unavailable o.unavailable) (sym e) (unavailable_fit x pick fits) in
    let t = subst (λ (o : Outcome). Agrees x.asked.total o.total) (sym e) (total_fits x pick fits) in
    c.are_all.ensures (c.counts_fit-counts.ensures ∙ counts) (c.is_count-successes.ensures s) (c.is_count-failures.ensures f)
    (c.is_count-unavailable.ensures u) (c.is_sum-total.ensures t)
