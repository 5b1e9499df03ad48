use Rattle.std.proofs.Common.{◌≡◌, List, Option, refl, sym, subst}
use Rattle.std.proofs.lemmas.List.{get_or_default}
use Rattle.std.proofs.lemmas.List.Elements.{AllWithin-more}
use Rattle.sts_model.specs.declared.event.End.{End}
use Rattle.laws_calls.specs.Tasks.{Among}
use Rattle.laws_calls.specs.Fitting.{Fits}
use Rattle.ends_picks.specs.declared.outcomes.Outcome.{Outcome}
use Rattle.ends_picks.specs.Outcomes.{nothing, outcome_of}
use Rattle.ends_picks.proofs.ListLemmas.{each_among}
use Rattle.ends_picks.proofs.fitting.those_that_fit.Goals as goal

pub loop-outcome-preserved : goal.loop-outcome-preserved
loop-outcome-preserved c =
    let there = λ (o : Outcome). (pick : List (Option End)) → Fits c.args.seen.now pick → o ≡ outcome_of c.args.seen.now pick → Among
    c.push_fitting.new.list.items o in
    AllWithin-more there c.args.found.now 0 c.loop-outcome.outcome-index
    (λ k d low high pick fits e. c.in_ok-push_fitting.ensures.keeps _ (c.loop-outcome.invariant k d low high pick fits e))
    (λ d. subst there (sym (get_or_default c.args.found.now c.loop-outcome.outcome-index d nothing c.loop-outcome-test.true))
    c.in_ok-push_fitting.ensures.has)

pub returns : goal.returns
returns c pick fits at =
    each_among (λ (o : Outcome). (pick : List (Option End)) → Fits c.args.seen.now pick → o ≡ outcome_of c.args.seen.now pick → Among
    c.loop-outcome.list.items o) c.args.found.now c.loop-outcome.outcome-index c.loop-outcome-test.false c.loop-outcome.invariant
    (outcome_of c.args.seen.now pick) at pick fits refl
