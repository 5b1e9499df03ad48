use Rattle.std.proofs.Common.{◌≡◌, ◌<◌, ◌∙◌, ap, sym, length, arith, slice_index_or}
use Rattle.std.proofs.lemmas.List.{get_or_default}
use Rattle.sts_joiners.specs.Tallied.{Tallied, with_end}
use Rattle.sts_model.specs.Effect.{ended, told}
use Rattle.sts_model.specs.Living.{ends}
use Rattle.sts_model.specs.World.{World, task_at, scope_at, with_scope, with_task}
use Rattle.sts_model.specs.Told.{cancels_told}
use Rattle.sts_world.specs.Kept.{no_family, no_tally}
use Rattle.sts_world.specs.Lines.{tally_of}
use Rattle.sts_joiners.proofs.TellLemmas.{is_enough}
use Rattle.sts_world.proofs.Ends.{ends_told}
use Rattle.sts_world.proofs.Worlds.{IsSubtask, ended_at, kept_complete, subtask_there, tallies_bound, told_bound, found_tally, after_complete}
use Rattle.sts_world.proofs.world.World.complete.Goals.{After-end, After-index_mut-2, After-index_mut-3, After-self}
use Rattle.sts_world.proofs.world.World.complete.Goals as goal

-- the living subtask, and the bounds of its scope
subtask : (c : After-self) → IsSubtask c.self.inside.records c.self.inside.families.items c.args.t c.args.s
subtask c = subtask_there c.self.inside.records c.args.self.now c.self.inside.families.items _ _ _ c.args.t c.args.s c.self.view_is
    c.requires.born c.requires.lives c.requires.in_scope c.self.invariant.0

bounds : (c : After-self) → (c.args.s < length c.self.inside.tallies.items) × (c.args.s < length c.self.inside.records.scopes)
bounds c = tallies_bound c.self.inside.records _ _ _ _ c.args.s c.self.invariant.0 (subtask c).bound

pub index_mut-requires : goal.index_mut-requires
index_mut-requires c = omega (arith, (subtask (goal.at.index_mut-requires c).After-self).born, c.self.invariant.1.as_many)

pub index_mut-requires-2 : goal.index_mut-requires-2
index_mut-requires-2 c = omega (arith, (subtask (goal.at.index_mut-requires-2 c).After-self).bound)

family : (c : After-index_mut-2) → c.index_mut-2.result.now ≡ slice_index_or c.self.inside.families.items c.args.s no_family
family c =
    let k = subtask (goal.at.lose-requires c).After-self in
    c.index_mut-2.ensures.value ∙ get_or_default c.self.inside.families.items c.args.s _ no_family k.bound

pub lose-requires : goal.lose-requires
lose-requires c = rw (family (goal.at.lose-requires c).After-index_mut-2) (subtask (goal.at.lose-requires c).After-self).more

pub index_mut-requires-3 : goal.index_mut-requires-3
index_mut-requires-3 c = omega (arith, (bounds (goal.at.index_mut-requires-3 c).After-self).0)

tally : (c : After-index_mut-3) → c.index_mut-3.result.now ≡ slice_index_or c.self.inside.tallies.items c.args.s no_tally
tally c =
    let b = bounds (goal.at.on_complete-requires c).After-self in
    c.index_mut-3.ensures.value ∙ get_or_default c.self.inside.tallies.items c.args.s _ no_tally b.0

pub on_complete-requires : goal.on_complete-requires
on_complete-requires c = rw (tally (goal.at.on_complete-requires c).After-index_mut-3) (told_bound c.self.inside.records _ _ _ _ c.args.s c.self.invariant.0)

-- the world afterwards
after : (c : After-end)
    → with_task c.tell.new.self c.args.t c.end.new.self
    ≡ ended (with_scope c.self.inside.records c.args.s (told (scope_at c.self.inside.records c.args.s) c.args.t c.args.end)) c.args.t
    (task_at c.self.inside.records c.args.t).frame c.args.end
after c = ended_at _ c.args.t _ _ c.args.end c.end.ensures c.task.ensures.value
    ∙ ap (λ (u : World). ended u c.args.t (task_at u c.args.t).frame c.args.end) c.in_ok-tell.ensures.ok

pub invariant_of-self-2 : goal.invariant_of-self-2
invariant_of-self-2 c =
    let w : World = c.self.inside.records in
    let v : World = with_task c.tell.new.self c.args.t c.end.new.self in
    let frame = (task_at w c.args.t).frame in
    let path = goal.at.invariant_of-self-2 c in
    let k = subtask path.After-self in
    let e = after path.After-end in (
      rw (c.lose.ensures, family path.After-index_mut-2, c.on_complete.ensures.kept, tally path.After-index_mut-3)
          (kept_complete w v _ _ _ _ c.args.t c.args.s frame c.args.end e k.born k.living k.in_scope c.self.invariant.0),
      ends_told w v _ c.args.t c.args.s frame c.args.end e k.born (bounds path.After-self).1 k.living k.in_scope c.self.invariant.1,
    )

pub returns-clause-asks : goal.returns-clause-asks
returns-clause-asks c =
    let w : World = c.self.inside.records in
    let scope = scope_at (with_task c.tell.new.self c.args.t c.end.new.self) c.args.s in
    let path = goal.at.returns-clause-asks c in
    let told = after_complete w _ c.args.t c.args.s (task_at w c.args.t).frame c.args.end (after path.After-end) (bounds path.After-self).1 in
    let found = tally path.After-index_mut-3 ∙ found_tally w _ _ _ _ c.args.s c.self.invariant.0 in
    let told_now : with_end c.index_mut-3.result.now c.args.end ≡ tally_of scope = ap (λ (t : Tallied). with_end t c.args.end) found ∙ sym told in
    c.on_complete.ensures.asks
    ∙ ap (λ (t : Tallied). cancels_told t.joiner t.told) (c.on_complete.ensures.kept ∙ told_now)
    ∙ sym (is_enough scope.joiner (ends scope) c.args.end 0).cancels
