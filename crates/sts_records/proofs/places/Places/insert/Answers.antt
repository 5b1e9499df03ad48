use Rattle.sts_records.specs.Cells.{slots_of}
use Rattle.sts_records.proofs.Keys.{as_keys, lays_updates, sound_come, vacant_at}
use Rattle.sts_records.proofs.places.Places.insert.Goals as goal

pub insert_reserved-key-requires : goal.insert_reserved-key-requires
insert_reserved-key-requires g c =
    rw (← c.self.view_is, as_keys c.self.inside.keys (slots_of c.self.inside.cells.items) _ c.self.invariant.0) at c.requires

pub put-requires : goal.put-requires
put-requires g c =
    let e = c.insert_reserved-key.ensures in
    rw (c.self.invariant.0.alike, ← e.capacity) e.key_in_range

pub invariant_of-self : goal.invariant_of-self
invariant_of-self g c =
    let e = c.insert_reserved-key.ensures in (
      rw c.put.ensures.capacity (sound_come c.self.inside.keys c.insert_reserved-key.new.self (slots_of c.self.inside.cells.items)
          (slots_of c.put.new.cells.items) _ c.insert_reserved-key.result (record { birth = c.args.birth; body = c.args.body }) _ e.updates
          e.capacity c.put.ensures.lays c.self.invariant.0),
      c.put.ensures.whole c.self.invariant.1,
    )

pub returns-clause-was_vacant : goal.returns-clause-was_vacant
returns-clause-was_vacant g c =
    rw (← c.self.view_is) (vacant_at c.self.inside.keys (slots_of c.self.inside.cells.items) _ c.insert_reserved-key.result
    c.self.invariant.0 c.insert_reserved-key.ensures.was_vacant)

pub returns-clause-updates : goal.returns-clause-updates
returns-clause-updates g c =
    rw (← c.self.view_is, c.insert_reserved-key.ensures.capacity) (lays_updates (slots_of c.self.inside.cells.items)
    (slots_of c.put.new.cells.items) c.insert_reserved-key.result _ (record { birth = c.args.birth; body = c.args.body })
    c.put.ensures.lays)

pub returns-clause-filled : goal.returns-clause-filled
returns-clause-filled g c =
    let e = c.insert_reserved-key.ensures in
    let slots = slots_of c.self.inside.cells.items in
    let after = slots_of c.put.new.cells.items in
    let sound = sound_come c.self.inside.keys c.insert_reserved-key.new.self slots after _ c.insert_reserved-key.result
    (record { birth = c.args.birth; body = c.args.body }) _ e.updates e.capacity c.put.ensures.lays c.self.invariant.0 in
    let old = as_keys c.self.inside.keys slots _ c.self.invariant.0 in
    let new = as_keys c.insert_reserved-key.new.self after _ sound in
    rw (← c.self.view_is, old, new) e.len
