use Rattle.std.proofs.Common.{◌/◌, sym, arith, ◌∙◌}
use Rattle.sts_records.specs.Slots.{births}
use Rattle.sts_records.proofs.Slots.{looked_up, slot_past}
use Rattle.sts_records.proofs.held.Held.get.Goals as goal

pub returns-then-birth-self : goal.returns-then-birth-self
returns-then-birth-self g c =
    let born = c.self.invariant.2 in
    let past_all = c.if-birth-self.true in
    rw (← c.self.view_is) (sym (slot_past c.self.inside.given.keys c.self.inside.places.slots c.args.birth (omega (arith, born, past_all))))

pub key-requires : goal.key-requires
key-requires g c =
    let less = c.if-birth-self.false in
    (c.self.inside.born / 4096, births c.self.inside.places.slots, c.self.invariant.5, omega (arith, less))

pub returns : goal.returns
returns g c =
    let places = c.self.inside.places in
    rw (← c.self.view_is) (c.get.ensures ∙ looked_up c.self.inside.given.keys places.slots c.args.birth c.key.result c.self.invariant.4
    (λ k is. c.key.ensures (c.self.inside.born / 4096) (births places.slots) k c.self.invariant.5 is))
