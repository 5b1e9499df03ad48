use Rattle.std.proofs.Common.{ap, ◌∙◌}
use Rattle.sts_records.specs.Places.{Places}
use Rattle.sts_records.specs.Cells.{slots_of}
use Rattle.sts_records.proofs.Keys.{as_keys, lays_updates, sound_come, vacant_at}
use Rattle.sts_records.proofs.places.Places.reuse.Goals as goal

pub insert_reserved-requires : goal.insert_reserved-requires
insert_reserved-requires g c =
    rw (← c.self.view_is, as_keys c.self.inside.keys (slots_of c.self.inside.cells.items) _ c.self.invariant.0) at c.requires

pub invariant_of-self-2 : goal.invariant_of-self-2
invariant_of-self-2 g c =
    let e = c.insert_reserved.ensures in
    let same = c.vacant_key-key.ensures.value in
    let lays = c.revive.ensures.lays c.if-not-revive.false in
    let old = slots_of c.self.inside.cells.items in
    let new = slots_of c.revive.new.cells.items in (
      rw c.revive.ensures.capacity (sound_come c.self.inside.keys c.insert_reserved.new.self old new _ c.insert_reserved.result
          (record { birth = c.args.birth; body = lays.0 }) tt e.updates e.capacity (rw (e.key, ← same) lays.1) c.self.invariant.0),
      c.revive.ensures.whole c.self.invariant.1,
    )

pub returns-clause-was_vacant : goal.returns-clause-was_vacant
returns-clause-was_vacant g c =
    rw (← c.self.view_is) (vacant_at c.self.inside.keys (slots_of c.self.inside.cells.items) _ c.vacant_key-key.result c.self.invariant.0
    c.vacant_key-key.ensures.vacant)

pub returns-clause-updates : goal.returns-clause-updates
returns-clause-updates g c =
    let lays = c.revive.ensures.lays c.if-not-revive.false in
    let old = slots_of c.self.inside.cells.items in
    let new = slots_of c.revive.new.cells.items in (
      lays.0,
      rw (← c.self.view_is, c.insert_reserved.ensures.capacity)
          (lays_updates old new c.vacant_key-key.result _ (record { birth = c.args.birth; body = lays.0 }) lays.1),
    )

pub returns-clause-filled : goal.returns-clause-filled
returns-clause-filled g c =
    let e = c.insert_reserved.ensures in
    let same = c.vacant_key-key.ensures.value in
    let lays = c.revive.ensures.lays c.if-not-revive.false in
    let old = slots_of c.self.inside.cells.items in
    let new = slots_of c.revive.new.cells.items in
    let sound = sound_come c.self.inside.keys c.insert_reserved.new.self old new _ c.insert_reserved.result
    (record { birth = c.args.birth; body = lays.0 }) tt e.updates e.capacity (rw (e.key, ← same) lays.1) c.self.invariant.0 in
    let before = as_keys c.self.inside.keys old _ c.self.invariant.0 in
    let after = as_keys c.insert_reserved.new.self new _ sound in
    rw (← c.self.view_is, before, after) e.len

pub invariant_of-self : goal.invariant_of-self
invariant_of-self g c = rw (c.revive.ensures.none c.if-not-revive.true) c.self.invariant

pub returns-then-not-revive-clause-none : goal.returns-then-not-revive-clause-none
returns-then-not-revive-clause-none g c = rw (c.revive.ensures.none c.if-not-revive.true) c.self.view_is

pub returns-then-not-revive-clause-capacity : goal.returns-then-not-revive-clause-capacity
returns-then-not-revive-clause-capacity g c = ap (λ (p : Places _). p.capacity) c.self.view_is

pub returns-clause-capacity : goal.returns-clause-capacity
returns-clause-capacity g c = c.insert_reserved.ensures.capacity ∙ ap (λ (p : Places _). p.capacity) c.self.view_is
