use Rattle.std.proofs.Common.{arith, sym, ◌∙◌}
use Rattle.sts_frames.proofs.FillLemmas.{nothing_yet, has_room_for_one, one_more, all_now}
use Rattle.sts_frames.proofs.copies.fill_entries.Goals as goal

pub loop-i-init : goal.loop-i-init
loop-i-init c = c.requires ∙ sym (nothing_yet c.args.from.now _ c.len-len.ensures.len)

pub overflow_sub-len : goal.overflow_sub-len
overflow_sub-len c = omega (arith, c.loop-i-test.true)

pub overflow_sub-len-in-loop-i : goal.overflow_sub-len-in-loop-i
overflow_sub-len-in-loop-i c = omega (arith, c.loop-i-test.true)

pub push-requires : goal.push-requires
push-requires c =
    has_room_for_one c.args.from.now c.loop-i.entries _ _ c.loop-i.i
    c.len-len.ensures.len c.len-len.ensures.bound c.loop-i-test.true c.loop-i.invariant

pub loop-i-preserved : goal.loop-i-preserved
loop-i-preserved c =
    c.push.ensures
    ∙ one_more c.args.from.now c.loop-i.entries _ c.loop-i.i _ _
    c.len-len.ensures.len c.loop-i-test.true c.loop-i.invariant c.get_or.ensures

pub returns : goal.returns
returns c =
    all_now c.args.from.now c.loop-i.entries _ c.loop-i.i c.loop-i-test.false c.loop-i.invariant
