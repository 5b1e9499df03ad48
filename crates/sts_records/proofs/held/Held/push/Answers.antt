use Rattle.std.proofs.Common.{refl, sym, ◌∙◌}
use Rattle.sts_records.specs.Slots.{births}
use Rattle.sts_records.proofs.Holding.{came, next_few, pushed_keeps, pushed_slots, put_keys, put_room}
use Rattle.sts_records.proofs.Slots.{length-slots}
use Rattle.sts_records.proofs.held.Held.push.Goals as goal

pub put-requires : goal.put-requires
put-requires g c = (births c.self.inside.places.slots, c.self.invariant.5)

pub turn-requires-clause-born : goal.turn-requires-clause-born
turn-requires-clause-born g c = next_few c.self.inside c.self.invariant (rw (← c.self.view_is) at c.requires.births)

pub turn-requires-clause-keys : goal.turn-requires-clause-keys
turn-requires-clause-keys g c =
    let e = c.insert-key.ensures in
    put_keys (came c.self.inside c.self.invariant e.was_vacant e.updates e.filled e.capacity) c.put.new.self c.put.ensures.keys

pub turn-requires-clause-room : goal.turn-requires-clause-room
turn-requires-clause-room g c =
    let e = c.insert-key.ensures in
    put_room (came c.self.inside c.self.invariant e.was_vacant e.updates e.filled e.capacity) c.put.new.self
    (rw (← c.self.view_is) at c.requires.room) c.put.ensures.pages

pub invariant_of-self : goal.invariant_of-self
invariant_of-self g c =
    let e = c.insert-key.ensures in
    pushed_keeps (came c.self.inside c.self.invariant e.was_vacant e.updates e.filled e.capacity) (rw (← c.self.view_is) at c.requires.births)
    (rw (← c.self.view_is) at c.requires.room) c.turn.new.self c.and-self-inside.result.keys c.and-self-inside.ensures c.turn.ensures.keys
    (c.turn.ensures.pages ∙ c.put.ensures.pages)

pub returns-clause-birth : goal.returns-clause-birth
returns-clause-birth g c = rw (← c.self.view_is) (c.self.invariant.2 ∙ sym (length-slots 0 c.self.inside.given.keys c.self.inside.places.slots))

pub returns-clause-slots : goal.returns-clause-slots
returns-clause-slots g c =
    let e = c.insert-key.ensures in
    let slots = pushed_slots (came c.self.inside c.self.invariant e.was_vacant e.updates e.filled e.capacity) in
    rw (← c.self.view_is, c.and-self-inside.ensures, slots) refl
