use Rattle.std.proofs.Common.{◌≡◌, Some, ap, arith, refl, ◌∙◌}
use Rattle.sts_records.specs.Slots.{birth_of}
use Rattle.sts_records.proofs.Slots.{is_entry, key_is}
use Rattle.sts_records.proofs.held.Held.birth.Goals as goal

pub unwrap-requires : goal.unwrap-requires
unwrap-requires g c =
    let (b, is) = rw (← c.self.view_is) at c.requires in
    let e = key_is c.self.inside.given.keys c.self.inside.places.slots b c.args.key is in
    let found : c.birth.result ≡ Some e.0.birth = c.birth.ensures ∙ ap birth_of e.1 in
    rw found refl

pub returns-clause-value : goal.returns-clause-value
returns-clause-value g c b is =
    let e = key_is c.self.inside.given.keys c.self.inside.places.slots b c.args.key (rw (← c.self.view_is) at is) in
    let found : c.birth.result ≡ Some e.0.birth = c.birth.ensures ∙ ap birth_of e.1 in
    is_entry c.unwrap.ensures found ∙ e.2

pub returns-clause-few : goal.returns-clause-few
returns-clause-few g c =
    let (b, is) = rw (← c.self.view_is) at c.requires in
    let e = key_is c.self.inside.given.keys c.self.inside.places.slots b c.args.key is in
    let found : c.birth.result ≡ Some e.0.birth = c.birth.ensures ∙ ap birth_of e.1 in
    let own = is_entry c.unwrap.ensures found ∙ e.2 in
    let less = e.3 in
    let born = c.self.invariant.2 in
    let few = c.self.invariant.3 in
    omega (arith, own, less, born, few)
