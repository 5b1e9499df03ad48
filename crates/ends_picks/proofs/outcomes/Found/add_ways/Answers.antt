use Rattle.std.proofs.Common.{◌≡◌, true, pos, Some, sym, subst}
use Rattle.std.proofs.lemmas.List.{get_or_default}
use Rattle.std.proofs.lemmas.List.Elements.{AllWithin-more}
use Rattle.sts_model.specs.declared.event.End.{End}
use Rattle.sts_model.specs.declared.event.End.TheVariants.{Success}
use Rattle.laws_calls.specs.declared.table.Way.{Way}
use Rattle.laws_calls.specs.Tasks.{Among}
use Rattle.ends_picks.specs.declared.outcomes.Outcome.{Outcome}
use Rattle.ends_picks.specs.Outcomes.{after, is_within}
use Rattle.ends_picks.proofs.ListLemmas.{each_way}
use Rattle.ends_picks.proofs.outcomes.Found.add_ways.Goals as goal

pub loop-way-preserved : goal.loop-way-preserved
loop-way-preserved c =
    let there = λ (way : Way). (o : Outcome) → Among c.args.before.now o → is_within c.args.seen.now
    (after c.args.seen.now o (Some way.end)) ≡ true → Among c.add_all.new.self.outcomes.items
    (after c.args.seen.now o (Some way.end)) in
    let none : Way = record { end = Success (pos 0) } in
    let items = c.as_slice-way-items.result.now in
    record {
      has = AllWithin-more there items 0 c.loop-way.way-index
          (λ k d low high o at within. c.in_ok-add_all.ensures.keeps _ (c.loop-way.invariant.has k d low high o at within))
          (λ d. subst there (sym (get_or_default items c.loop-way.way-index d none c.loop-way-test.true)) c.in_ok-add_all.ensures.has);
      keeps = λ o at. c.in_ok-add_all.ensures.keeps o (c.loop-way.invariant.keeps o at);
    }

pub returns-clause-has : goal.returns-clause-has
returns-clause-has c o e at may within =
    each_way (λ (z : End). (o : Outcome) → Among c.args.before.now o → is_within c.args.seen.now (after c.args.seen.now o (Some z)) ≡ true
    → Among c.loop-way.self.outcomes.items (after c.args.seen.now o (Some z))) c.as_slice-way-items.result.now c.args.part.now.ways
    c.loop-way.way-index c.as_slice-way-items.ensures c.loop-way-test.false c.loop-way.invariant.has e may o at within
