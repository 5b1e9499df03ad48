use Rattle.std.proofs.Common.{arith, ◌-◌, ◌+◌, ◌∙◌, sym}
use Rattle.sts_env.specs.Environments.{record_at}
use Rattle.sts_env.proofs.WalkLemmas.{further}
use Rattle.sts_env.proofs.chains.Chains.read.Goals as goal

pub loop-preserved : goal.loop-preserved
loop-preserved c =
    let there = rw c.unwrap-record.ensures at c.get.ensures in
    let f = further (record_at c.args.self.now) (c.args.env.length - c.loop.counter) (c.args.env.length - (c.loop.counter + 1))
    c.unwrap.result c.loop.at c.unwrap-record.result.now c.args.key (omega arith) c.unwrap.ensures (rw (← c.self.view_is) (sym there))
    c.if-record-key.false c.loop.invariant.0 in
    (f.0, f.1 ∙ c.loop.invariant.1)
