use Rattle.std.proofs.Common.{arith, below_more, option_copied}
use Rattle.look_refusal.specs.Ways as def
use Rattle.look_refusal.proofs.ways.find_way.Goals as goal

pub loop-from-preserved : goal.loop-from-preserved
loop-from-preserved c =
    below_more (def.ArriveAlike c.args.program.now c.args.function c.args.to (option_copied c.args.known)) c.loop-from.from c.loop-from.invariant
    c.in_default.ensures

pub returns : goal.returns
returns c = λ from lt. c.loop-from.invariant from (omega (arith, lt, c.loop-from-test.false))
