use Rattle.std.proofs.Common.{◌+◌, refl, sym, ◌∙◌, arith}
use Rattle.sts_records.specs.Places.{filled}
use Rattle.sts_records.specs.Slots.{births}
use Rattle.sts_records.proofs.Holding.{next_few, skipped_keeps}
use Rattle.sts_records.proofs.Slots.{has_pages, length-slots, same_latest, skipped}
use Rattle.sts_records.proofs.held.Held.skip.Goals as goal

pub turn-requires-clause-born : goal.turn-requires-clause-born
turn-requires-clause-born g c = next_few c.self.inside c.self.invariant (rw (← c.self.view_is) at c.requires)

pub turn-requires-clause-keys : goal.turn-requires-clause-keys
turn-requires-clause-keys g c = same_latest c.self.inside.pages c.self.inside.born (births c.self.inside.places.slots) c.self.invariant.5

pub turn-requires-clause-room : goal.turn-requires-clause-room
turn-requires-clause-room g c = has_pages c.self.inside.pages c.self.inside.pages (filled c.self.inside.places)
    (filled c.self.inside.places + c.self.inside.room) refl (omega arith) c.self.invariant.6

pub invariant_of-self : goal.invariant_of-self
invariant_of-self g c =
    skipped_keeps c.self.inside c.self.invariant (rw (← c.self.view_is) at c.requires) c.turn.new.self c.and-self-inside.result.keys
    c.and-self-inside.ensures c.turn.ensures.keys c.turn.ensures.pages

pub returns-clause-birth : goal.returns-clause-birth
returns-clause-birth g c = rw (← c.self.view_is) (c.self.invariant.2 ∙ sym (length-slots 0 c.self.inside.given.keys c.self.inside.places.slots))

pub returns-clause-slots : goal.returns-clause-slots
returns-clause-slots g c =
    rw (← c.self.view_is, c.and-self-inside.ensures) (skipped c.self.inside.given.keys c.self.inside.places.slots 0 c.self.invariant.4)
