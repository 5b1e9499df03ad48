use Rattle.sts_records.proofs.Holding.{led, led_some}
use Rattle.sts_records.proofs.held.Held.record.Goals as goal

pub record-requires : goal.record-requires
record-requires g c = led_some c.self.inside c.args.birth c.key-key.result (rw (← c.self.view_is) at c.requires) (rw (← c.self.view_is) at c.key-key.ensures)

pub returns : goal.returns
returns g c =
    let l = led c.self.inside c.args.birth c.key-key.result (rw (← c.self.view_is) at c.requires) (rw (← c.self.view_is) at c.key-key.ensures) in
    let own = c.record.ensures l.stands.entry l.is in
    rw (← c.self.view_is, own) l.stands.body
