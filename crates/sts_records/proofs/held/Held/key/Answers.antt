use Rattle.sts_records.proofs.Holding.{answered, asks}
use Rattle.sts_records.proofs.Slots.{stands}
use Rattle.sts_records.proofs.held.Held.key.Goals as goal

pub key-requires : goal.key-requires
key-requires g c =
    let s = stands c.self.inside.given.keys c.self.inside.places.slots c.args.birth (rw (← c.self.view_is) at c.requires) in
    asks c.self.inside c.self.invariant c.args.birth s

pub returns : goal.returns
returns g c =
    let s = stands c.self.inside.given.keys c.self.inside.places.slots c.args.birth (rw (← c.self.view_is) at c.requires) in
    rw (← c.self.view_is) (answered c.self.inside c.self.invariant c.args.birth c.key.result s c.key.ensures)
