use Rattle.std.proofs.Common.{refl}
use Rattle.sts_records.proofs.Holding.{led, led_some, lent_keeps}
use Rattle.sts_records.proofs.Slots.{lent}
use Rattle.sts_records.proofs.held.Held.at.Goals as goal

pub at-requires : goal.at-requires
at-requires g c = led_some c.self.inside c.args.birth c.key-key.result (rw (← c.self.view_is) at c.requires) c.key-key.ensures

pub invariant_of-self-lent : goal.invariant_of-self-lent
invariant_of-self-lent g c w =
    let l = led c.self.inside c.args.birth c.key-key.result (rw (← c.self.view_is) at c.requires) c.key-key.ensures in
    let at = l.at in
    let is = l.stands.is in
    rw (at, is) (lent_keeps c.self.inside c.self.invariant c.args.birth w l.stands)

pub returns : goal.returns
returns g c =
    let h = c.self.inside in
    let l = led c.self.inside c.args.birth c.key-key.result (rw (← c.self.view_is) at c.requires) c.key-key.ensures in
    let at = l.at in
    let is = l.stands.is in
    let own = c.at.ensures.value l.stands.entry l.is in (
      (refl, λ w. rw (← c.self.view_is, at, is) (lent h.given.keys h.places.slots c.args.birth w h.room l.stands)),
      record { writes_back = tt; value = rw (← c.self.view_is, own) l.stands.body },
    )
