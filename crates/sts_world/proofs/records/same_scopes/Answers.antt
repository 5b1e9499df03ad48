use Rattle.std.proofs.Common.{rules, ◌<◌, length, arith}
use Rattle.sts_world.specs.Scopes.{shown}
use Rattle.sts_world.proofs.Scoping.{same_more, same_shown}
use Rattle.sts_world.proofs.records.same_scopes.Goals as goal

pub loop-i-preserved : goal.loop-i-preserved
loop-i-preserved c =
    let less : c.loop-i.i < length c.args.a.now = omega arith in
    let less_there : c.loop-i.i < length c.args.b.now = omega arith in
    same_more (shown c.args.here.now) (shown c.args.there.now) c.args.a.now c.args.b.now c.loop-i.i c.index-a-i.result c.index-b-i.result
    less less_there c.index-a-i.is c.index-b-i.is
    (same_shown c.args.here.now c.args.there.now c.index-a-i.result c.index-b-i.result (c.same_scope.ensures (search rules))
    (c.same_bindings.ensures (search rules)))
    c.loop-i.invariant
