use Rattle.std.proofs.Common.{◌≡◌, ◌<◌, ◌≤◌, refl, sym, arith, length, get_or}
use Rattle.std.proofs.lemmas.Option.{get_or_from_slice_get}
use Rattle.ends_picks.proofs.OutcomeLemmas.{outcomes_more, outcomes_all}
use Rattle.ends_picks.proofs.outcomes.outcomes.Goals as goal

pub loop-i-preserved : goal.loop-i-preserved
loop-i-preserved c =
    let parts = c.args.seen.now.parts in
    let part = c.at.result.now in
    let less : c.loop-i.i < length parts = omega arith in
    let is : part ≡ get_or parts c.loop-i.i part = sym (get_or_from_slice_get parts c.loop-i.i part part c.at.ensures) in
    outcomes_more c.args.seen.now parts c.loop-i.i part c.loop-i.found.items c.as_slice.result.now _ refl c.as_slice.ensures.value less is
    c.loop-i.invariant c.in_ok-found-2.ensures

pub returns : goal.returns
returns c =
    let done : length c.args.seen.now.parts ≤ c.loop-i.i = omega arith in
    outcomes_all c.args.seen.now c.args.seen.now.parts c.loop-i.i c.loop-i.found.items refl done c.loop-i.invariant
