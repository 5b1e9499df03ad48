use Rattle.std.proofs.Common.{◌≡◌, true, sym, subst}
use Rattle.std.proofs.lemmas.List.{get_or_default}
use Rattle.std.proofs.lemmas.List.Elements.{AllWithin-more}
use Rattle.laws_calls.specs.Tasks.{Among}
use Rattle.ends_picks.specs.declared.outcomes.Outcome.{Outcome}
use Rattle.ends_picks.specs.Outcomes.{nothing, after, is_within}
use Rattle.ends_picks.proofs.ListLemmas.{each_among}
use Rattle.ends_picks.proofs.outcomes.Found.add_all.Goals as goal

pub loop-outcome-preserved : goal.loop-outcome-preserved
loop-outcome-preserved c =
    let there = λ (o : Outcome). is_within c.args.seen.now (after c.args.seen.now o c.args.state) ≡ true → Among
    c.add_after.new.self.outcomes.items (after c.args.seen.now o c.args.state) in
    record {
      has = AllWithin-more there c.args.before.now 0 c.loop-outcome.outcome-index
          (λ k d low high within. c.in_ok-add_after.ensures.keeps _ (c.loop-outcome.invariant.has k d low high within))
          (λ d. subst there (sym (get_or_default c.args.before.now c.loop-outcome.outcome-index d nothing c.loop-outcome-test.true))
          c.in_ok-add_after.ensures.has);
      keeps = λ o at. c.in_ok-add_after.ensures.keeps o (c.loop-outcome.invariant.keeps o at);
    }

pub returns-clause-has : goal.returns-clause-has
returns-clause-has c o at within =
    each_among (λ (o : Outcome). is_within c.args.seen.now (after c.args.seen.now o c.args.state) ≡ true → Among
    c.loop-outcome.self.outcomes.items (after c.args.seen.now o c.args.state)) c.args.before.now c.loop-outcome.outcome-index
    c.loop-outcome-test.false c.loop-outcome.invariant.has o at within
