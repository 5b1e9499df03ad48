use Rattle.std.proofs.Common.{◌≡◌, ◌<◌, ◌∙◌, sym, length, true, Some, arith, slice_index_or}
use Rattle.std.proofs.lemmas.List.{get_or_default}
use Rattle.sts_model.specs.Living.{lives}
use Rattle.sts_model.specs.Effect.{ended}
use Rattle.sts_model.specs.World.{World, task_at, with_task}
use Rattle.sts_world.specs.Kept.{no_family}
use Rattle.sts_world.proofs.Ends.{ends_end}
use Rattle.sts_world.proofs.Worlds.{IsSubtask, ended_at, kept_root_end, kept_task_end, subtask_there}
use Rattle.sts_world.proofs.world.World.set_end.Goals.{After-end, After-index_mut-in-Some, After-self, In-Some}
use Rattle.sts_world.proofs.world.World.set_end.Goals as goal

-- the task lives, and the world after its end
living : (c : After-self) → (c.args.t < length c.self.inside.records.tasks) × (lives (task_at c.self.inside.records c.args.t) ≡ true)
living c = (rw c.self.view_is c.requires.born, rw c.self.view_is c.requires.lives)

after : (c : After-end)
    → with_task c.self.inside.records c.args.t c.end.new.self
    ≡ ended c.self.inside.records c.args.t (task_at c.self.inside.records c.args.t).frame c.args.end
after c = ended_at c.self.inside.records c.args.t _ _ c.args.end c.end.ensures c.task.ensures.value

pub index_mut-requires : goal.index_mut-requires
index_mut-requires c = omega (arith, (living (goal.at.index_mut-requires c).After-self).0, c.self.invariant.1.as_many)

pub invariant_of-self : goal.invariant_of-self
invariant_of-self c =
    let w : World = c.self.inside.records in
    let path = goal.at.invariant_of-self c in
    let (born, lives) = living path.After-self in
    let frame = (task_at w c.args.t).frame in (
      kept_root_end w _ _ _ _ _ c.args.t frame c.args.end (after path.After-end) born lives
          (sym c.parent-parent.ensures ∙ c.in-None.is) c.self.invariant.0,
      ends_end w _ _ c.args.t frame c.args.end (after path.After-end) born lives c.self.invariant.1,
    )

-- the subtask of the scope
subtask : (c : In-Some) → IsSubtask c.self.inside.records c.self.inside.families.items c.args.t c.in-Some.s
subtask c =
    let in_scope : (task_at c.args.self.now c.args.t).scope ≡ Some c.in-Some.s =
    rw (← c.self.view_is) (sym c.parent-parent.ensures ∙ c.in-Some.is) in
    subtask_there c.self.inside.records c.args.self.now c.self.inside.families.items _ _ _ c.args.t c.in-Some.s c.self.view_is
    c.requires.born c.requires.lives in_scope c.self.invariant.0

pub index_mut-requires-in-Some : goal.index_mut-requires-in-Some
index_mut-requires-in-Some c = omega (arith, (subtask (goal.at.index_mut-requires-in-Some c).In-Some).bound)

family : (c : After-index_mut-in-Some) → c.index_mut-in-Some.result.now ≡ slice_index_or c.self.inside.families.items c.in-Some.s no_family
family c =
    let bound = (subtask (goal.at.lose-requires c).In-Some).bound in
    c.index_mut-in-Some.ensures.value ∙ get_or_default c.self.inside.families.items c.in-Some.s _ no_family bound

pub lose-requires : goal.lose-requires
lose-requires c = rw (family (goal.at.lose-requires c).After-index_mut-in-Some) (subtask (goal.at.lose-requires c).In-Some).more

pub invariant_of-self-in-Some : goal.invariant_of-self-in-Some
invariant_of-self-in-Some c =
    let w : World = c.self.inside.records in
    let path = goal.at.invariant_of-self-in-Some c in
    let k = subtask path.In-Some in
    let frame = (task_at w c.args.t).frame in (
      rw (c.lose.ensures, family path.After-index_mut-in-Some) (kept_task_end w _ _ _ _ _ c.args.t c.in-Some.s frame c.args.end (after path.After-end)
          k.born k.living k.in_scope c.self.invariant.0),
      ends_end w _ _ c.args.t frame c.args.end (after path.After-end) k.born k.living c.self.invariant.1,
    )
