use Rattle.std.proofs.Common.{◌<◌, length, get_or, refl, sym, subst, take, ◌+◌}
use Rattle.sts_budget.specs.Change.{depth_of}
use Rattle.sts_budget.specs.Ready.{names_in}
use Rattle.sts_budget.specs.Table.{IsSent}
use Rattle.sts_budget.proofs.Rows.{sent_more, stopped_at}
use Rattle.sts_budget.proofs.pass.send.Goals as goal

pub loop-i-preserved : goal.loop-i-preserved
loop-i-preserved g c =
    let to = get_or c.args.places.now c.loop-i.i 0 in
    let within : to < length c.args.best.now.items = c.requires.inside c.loop-i.i 0 c.loop-i-test.true in
    let r = c.raise_at.ensures.raised c.if-not-raise_at.false in
    subst (IsSent c.args.values.now (λ pc. depth_of c.args.pass.now.resource (names_in c.args.pass.now.layout.now pc)) c.args.pass.now.most
    (take (c.loop-i.i + 1) c.args.places.now) c.args.best.now.items) (sym r.1.0)
    (sent_more c.args.values.now (λ pc. depth_of c.args.pass.now.resource (names_in c.args.pass.now.layout.now pc)) c.args.pass.now.most
    c.args.places.now c.loop-i.i to c.args.best.now.items c.loop-i.best.items r.0 c.loop-i-test.true refl within c.loop-i.invariant
    r.1.1)

pub returns-then-not-raise_at-clause-over : goal.returns-then-not-raise_at-clause-over
returns-then-not-raise_at-clause-over g c = λ e. stopped_at c.args.values.now
    (λ pc. depth_of c.args.pass.now.resource (names_in c.args.pass.now.layout.now pc)) c.args.pass.now.most c.args.places.now c.loop-i.i
    (get_or c.args.places.now c.loop-i.i 0) c.loop-i-test.true refl (c.raise_at.ensures.over c.if-not-raise_at.true)
