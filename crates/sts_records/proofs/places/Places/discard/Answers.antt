use Rattle.std.proofs.Common.{None, refl}
use Rattle.std.proofs.lemmas.List.{length-map, map-set}
use Rattle.sts_records.specs.Cells.{entry_of, slots_of}
use Rattle.sts_records.proofs.Keys.{as_keys, inside_cells, key_at, sound_go, updates_set, whole_set}
use Rattle.sts_records.proofs.places.Places.discard.Goals as goal

pub index_mut-requires : goal.index_mut-requires
index_mut-requires g c =
    rw c.self.inside.cells.ok.0 (inside_cells c.self.inside.cells.items c.args.key (rw (← c.self.view_is) at c.requires))

pub remove-requires : goal.remove-requires
remove-requires g c =
    key_at c.self.inside.keys (slots_of c.self.inside.cells.items) _ c.args.key c.self.invariant.0 (rw (← c.self.view_is) at c.requires)

pub invariant_of-self : goal.invariant_of-self
invariant_of-self g c =
    let cells = c.self.inside.cells.items in
    let less = inside_cells cells c.args.key (rw (← c.self.view_is) at c.requires) in (
      rw map-set (sound_go c.self.inside.keys c.remove.new.self (slots_of cells) _ c.args.key (rw (length-map cells entry_of) less)
          c.remove.ensures.updates c.remove.ensures.capacity c.self.invariant.0),
      whole_set cells c.args.key
          (record { birth = None; body = c.index_mut.result.now.body }) (λ some. absurd (some refl)) c.self.invariant.1,
    )

pub returns-clause-updates : goal.returns-clause-updates
returns-clause-updates g c =
    let cells = c.self.inside.cells.items in
    let less = inside_cells cells c.args.key (rw (← c.self.view_is) at c.requires) in
    rw (← c.self.view_is, map-set, c.remove.ensures.capacity) (updates_set (slots_of cells) c.args.key _ None (rw (length-map cells entry_of) less))

pub returns-clause-filled : goal.returns-clause-filled
returns-clause-filled g c =
    let cells = c.self.inside.cells.items in
    let less = inside_cells cells c.args.key (rw (← c.self.view_is) at c.requires) in
    let sound = sound_go c.self.inside.keys c.remove.new.self (slots_of cells) _ c.args.key (rw (length-map cells entry_of) less)
    c.remove.ensures.updates c.remove.ensures.capacity c.self.invariant.0 in
    let old = as_keys c.self.inside.keys (slots_of cells) _ c.self.invariant.0 in
    let new = as_keys c.remove.new.self _ _ sound in
    rw (← c.self.view_is, map-set, old, new) c.remove.ensures.len
