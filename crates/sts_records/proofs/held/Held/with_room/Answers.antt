use Rattle.std.proofs.Common.{arith}
use Rattle.sts_records.proofs.Holding.{keeps_none}
use Rattle.sts_records.proofs.held.Held.with_room.Goals as goal

pub invariant_of-result : goal.invariant_of-result
invariant_of-result g c =
    let places = c.in_ok-places.ensures in
    let pages = c.in_ok-pages.ensures in
    keeps_none c.in_ok-pages.pages c.in_ok-places.places c.new.result.keys c.args.room (omega arith) places.slots places.capacity c.new.ensures
    pages.keys pages.room
