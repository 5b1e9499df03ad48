use Rattle.std.proofs.Common.{Some, refl, sym, ◌∙◌}
use Rattle.std.proofs.lemmas.List.{length-map, map-set}
use Rattle.std.proofs.lemmas.Option.{same_Some}
use Rattle.sts_records.specs.Cells.{entry_of, slots_of}
use Rattle.sts_records.proofs.Keys.{found, inside_cells, parts, sound_rewrite, whole_set, with_other}
use Rattle.sts_records.proofs.places.Places.at.Goals as goal
use Rattle.laws_words.proofs.OptionLemmas.{not_none}

pub index_mut-requires : goal.index_mut-requires
index_mut-requires g c =
    rw c.self.inside.cells.ok.0 (inside_cells c.self.inside.cells.items c.args.key (rw (← c.self.view_is) at c.requires))

pub some_mut-requires : goal.some_mut-requires
some_mut-requires g c =
    let some = rw (← c.self.view_is) at c.requires in
    let body = (found c.self.inside.cells.items c.args.key c.index_mut.result.now some c.index_mut.ensures.value).body in
    rw body refl

pub invariant_of-self-lent : goal.invariant_of-self-lent
invariant_of-self-lent g c w =
    let cells = c.self.inside.cells.items in
    let some = rw (← c.self.view_is) at c.requires in
    let f = found cells c.args.key c.index_mut.result.now some c.index_mut.ensures.value in
    let birth = f.birth in
    let less = f.less in
    let long = length-map cells entry_of in (
      rw (map-set, birth)
          (sound_rewrite c.self.inside.keys (slots_of cells) _ c.args.key (record { birth = f.entry.birth; body = w }) some (rw long less) c.self.invariant.0),
      whole_set cells c.args.key (record { birth = c.index_mut.result.now.birth; body = Some w }) (λ _. not_none (Some w) w refl) c.self.invariant.1,
    )

pub returns : goal.returns
returns g c =
    let cells = c.self.inside.cells.items in
    let cell = c.index_mut.result.now in
    let some = rw (← c.self.view_is) at c.requires in
    let is = (found cells c.args.key cell some c.index_mut.ensures.value).is in
    let own = c.some_mut.ensures.value in (
      (refl, λ w. rw (← c.self.view_is, map-set, is, own, with_other cell.birth c.some_mut.result.now w) refl),
      record { writes_back = tt; value = λ e at. same_Some _ _ (sym own ∙ (parts cell.birth cell.body e (sym is ∙ (rw (← c.self.view_is) at at))).1) },
    )
