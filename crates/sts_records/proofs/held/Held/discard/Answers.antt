use Rattle.std.proofs.Common.{refl}
use Rattle.sts_records.proofs.Holding.{discarded_keeps, discarded_slots, led, led_some}
use Rattle.sts_records.proofs.held.Held.discard.Goals as goal

pub discard-requires : goal.discard-requires
discard-requires g c = led_some c.self.inside c.args.birth c.key-key.result (rw (← c.self.view_is) at c.requires) (rw (← c.self.view_is) at c.key-key.ensures)

pub invariant_of-self : goal.invariant_of-self
invariant_of-self g c =
    let l = led c.self.inside c.args.birth c.key-key.result (rw (← c.self.view_is) at c.requires) (rw (← c.self.view_is) at c.key-key.ensures) in
    let e = c.discard.ensures in
    discarded_keeps c.self.inside c.self.invariant c.discard.new.self c.key-key.result c.args.birth l.stands l.at e.updates e.filled e.capacity

pub returns-clause-slots : goal.returns-clause-slots
returns-clause-slots g c =
    let l = led c.self.inside c.args.birth c.key-key.result (rw (← c.self.view_is) at c.requires) (rw (← c.self.view_is) at c.key-key.ensures) in
    let e = discarded_slots c.self.inside c.self.invariant c.discard.new.self c.key-key.result c.args.birth l.stands l.at c.discard.ensures.updates in
    rw (← c.self.view_is, e) refl
