use Rattle.std.proofs.Common.{rules, ◌≡◌, length, subst, arith}
use Rattle.sts_rules.specs.Budget.{skeleton}
use Rattle.sts_budget.specs.Ready.{flows_in}
use Rattle.sts_budget.specs.Table.{IsPartial}
use Rattle.sts_budget.proofs.HandOn.{partial_none, partial_next, too_much}
use Rattle.sts_budget.proofs.pass.table.Goals as goal

pub loop-pc-init : goal.loop-pc-init
loop-pc-init g c = partial_none c.args.pass.now.resource c.args.pass.now.earlier.now c.args.pass.now.code.now c.args.pass.now.layout.now
    c.requires.ready g.row.N c.in_ok-best.best.items (c.in_ok-best.ensures {u = tt})

pub returns-then-not-hand_on : goal.returns-then-not-hand_on
returns-then-not-hand_on g c = too_much c.args.pass.now.resource c.args.pass.now.earlier.now c.args.pass.now.code.now
    c.args.pass.now.layout.now c.requires.ready c.loop-pc.pc c.args.pass.now.most c.loop-pc.best.items c.loop-pc-test.true
    c.loop-pc.invariant (c.hand_on.ensures.over (search rules))

pub loop-pc-preserved : goal.loop-pc-preserved
loop-pc-preserved g c = partial_next c.args.pass.now.resource c.args.pass.now.earlier.now c.args.pass.now.code.now
    c.args.pass.now.layout.now c.requires.ready c.loop-pc.pc c.loop-pc.best.items c.hand_on.new.best.items c.loop-pc.invariant
    (c.hand_on.ensures.spread (search rules))

pub hand_on-requires : goal.hand_on-requires
hand_on-requires g c = (
  omega (arith, c.requires.small),
  (c.requires.ready, (c.requires.most, (c.requires.small, (c.requires.fits, (c.loop-pc-test.true, c.loop-pc.invariant.long))))),
)

pub returns : goal.returns
returns g c =
    let n : c.loop-pc.pc ≡ length c.args.pass.now.code.now = omega arith in
    subst (λ k. IsPartial (skeleton c.args.pass.now.earlier.now c.args.pass.now.code.now)
    (flows_in c.args.pass.now.resource c.args.pass.now.earlier.now c.args.pass.now.code.now c.args.pass.now.layout.now) k
    c.loop-pc.best.items) n c.loop-pc.invariant
