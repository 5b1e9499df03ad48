use Rattle.std.proofs.Common.{pos, subst, sym}
use Rattle.std.specs.List.{Contains}
use Rattle.std.proofs.lemmas.List.{get_or_default}
use Rattle.std.proofs.lemmas.List.Elements.{AllWithin-more}
use Rattle.sts_model.specs.declared.event.End.TheVariants.{Success}
use Rattle.sts_plain.specs.declared.misstep.PlainState.TheVariants as plain
use Rattle.laws_calls.specs.declared.table.Way.{Way}
use Rattle.ends_plain.specs.Listed.{ends_of}
use Rattle.ends_whole.proofs.whole.have_ways.Goals as goal

pub loop-way-preserved : goal.loop-way-preserved
loop-way-preserved c =
    let is_there = λ (way : Way). Contains (ends_of c.args.found.now) (plain.Ended way.end) in
    let none : Way = record { end = Success (pos 0) } in
    let here = c.is_found.ensures.yes c.if-not-is_found.false in
    AllWithin-more is_there c.args.ways.now 0 c.loop-way.way-index c.loop-way.invariant
    (λ d. subst is_there (sym (get_or_default c.args.ways.now c.loop-way.way-index d none c.loop-way-test.true)) here)
