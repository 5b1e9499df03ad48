use Rattle.look_ends.proofs.CallsLemmas.{ends_front, ends_last, ends_shuffled}
use Rattle.look_ends.proofs.by_calls.add_ends.Goals as goal

pub loop-init : goal.loop-init
loop-init c = record {
  found = c.requires.first;
  more = ends_shuffled c.args.setting.now _ _ c.reverse.ensures.permutation c.requires.second;
}

pub loop-preserved : goal.loop-preserved
loop-preserved c =
    let g = c.args.setting.now in
    let split = c.in-Some.ensures.items in
    record {
      found = c.in_ok-add_end.ensures g c.loop.invariant.found (ends_last g _ _ c.in-Some.one split c.loop.invariant.more);
      more = ends_front g _ _ c.in-Some.one split c.loop.invariant.more;
    }
