use Rattle.std.proofs.Common.{rules, arith, sym, ◌∙◌}
use Rattle.sts_frames.proofs.FillLemmas.{nothing_yet, has_room_for_one, one_more, all_now}
use Rattle.sts_frames.proofs.copies.fill.Goals as goal

pub loop-i-init : goal.loop-i-init
loop-i-init g c = c.requires ∙ sym (nothing_yet c.args.from.now _ c.len-len.ensures.len)

pub overflow_sub-len : goal.overflow_sub-len
overflow_sub-len g c = omega (arith, c.loop-i-test.true)

pub overflow_sub-len-in-loop-i : goal.overflow_sub-len-in-loop-i
overflow_sub-len-in-loop-i g c = omega (arith, c.loop-i-test.true)

pub push-requires : goal.push-requires
push-requires g c = (
  search rules,
  has_room_for_one c.args.from.now c.loop-i.stack _ _ c.loop-i.i
      c.len-len.ensures.len c.len-len.ensures.bound c.loop-i-test.true c.loop-i.invariant,
)

pub loop-i-preserved : goal.loop-i-preserved
loop-i-preserved g c =
    c.push.ensures
    ∙ one_more c.args.from.now c.loop-i.stack _ c.loop-i.i _ _
    c.len-len.ensures.len c.loop-i-test.true c.loop-i.invariant c.get_or.ensures

pub returns : goal.returns
returns g c =
    all_now c.args.from.now c.loop-i.stack _ c.loop-i.i c.loop-i-test.false c.loop-i.invariant
