use Rattle.std.proofs.Common.{refl, ◌∙◌}
use Rattle.sts_records.proofs.Holding.{came, next_few, pushed_keeps, pushed_slots, put_keys}
use Rattle.sts_records.proofs.held.Held.reuse.Goals as goal

pub invariant_of-self : goal.invariant_of-self
invariant_of-self g c = rw c.in_default.ensures.none c.self.invariant

pub turn-requires-clause-born : goal.turn-requires-clause-born
turn-requires-clause-born g c = next_few c.self.inside c.self.invariant (rw (← c.self.view_is) at c.requires.births)

pub turn-requires-clause-keys : goal.turn-requires-clause-keys
turn-requires-clause-keys g c =
    let e = c.in-Some.ensures in
    put_keys (came c.self.inside c.self.invariant e.was_vacant e.updates.1 e.filled e.capacity) c.put.new.self c.put.ensures.keys

pub invariant_of-self-2 : goal.invariant_of-self-2
invariant_of-self-2 g c =
    let e = c.in-Some.ensures in
    pushed_keeps (came c.self.inside c.self.invariant e.was_vacant e.updates.1 e.filled e.capacity) (rw (← c.self.view_is) at c.requires.births)
    (rw (← c.self.view_is) at c.requires.room) c.turn.new.self c.and-self-inside.result.keys c.and-self-inside.ensures c.turn.ensures.keys
    (c.turn.ensures.pages ∙ c.put.ensures.pages)

pub returns-clause-slots : goal.returns-clause-slots
returns-clause-slots g c _ =
    let e = c.in-Some.ensures in
    let slots = pushed_slots (came c.self.inside c.self.invariant e.was_vacant e.updates.1 e.filled e.capacity) in
    (e.updates.0, rw (← c.self.view_is, c.and-self-inside.ensures, slots) refl)
