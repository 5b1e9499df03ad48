use Rattle.std.proofs.Common.{◌<◌, arith}
use Rattle.ends_plain.proofs.ends.list.Goals as goal

pub returns-clause-all : goal.returns-clause-all
returns-clause-all c k d less e =
    let here : k < c.loop-place.place = omega (arith, less, c.loop-place-test.false, c.len-place-end.ensures) in
    c.loop-place.invariant.1 k d here e
