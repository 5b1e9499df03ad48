use Rattle.std.proofs.Common.{◌≡◌, not, ◌<◌, ◌∙◌, ap, sym, length, false, arith, slice_index_or}
use Rattle.std.proofs.lemmas.List.{get_or_default, length-map, get_or-set_same}
use Rattle.sts_code.specs.declared.limits.TheConstants.{MAX_STANDING}
use Rattle.sts_model.specs.Effect.{fork_task}
use Rattle.sts_model.specs.Living.{lives}
use Rattle.sts_model.specs.Standing as standing
use Rattle.sts_model.specs.World.{World, task_at, scope_at}
use Rattle.sts_world.specs.Kept.{no_family, with_child}
use Rattle.sts_world.specs.Lines.{is_shut}
use Rattle.sts_world.proofs.Ends.{ends_fork}
use Rattle.sts_world.proofs.Finds.{finds_tasks}
use Rattle.sts_world.proofs.Worlds.{kept_child, kept_back, taken_back, born_open, child_some, child_fits}
use Rattle.sts_world.proofs.world.World.fork_task.Goals.{After-index_mut-in-Err, After-self, After-standing_tasks-tasks}
use Rattle.sts_world.proofs.world.World.fork_task.Goals as goal

-- the scope is open, so it was born, and has a family
opened : (c : After-self) → is_shut (scope_at c.self.inside.records c.args.s) ≡ false
opened c = rw c.self.view_is c.requires.opened

bounds : (c : After-self) → (c.args.s < length c.self.inside.records.scopes) × (c.args.s < length c.self.inside.families.items)
bounds c =
    let w : World = c.self.inside.records in
    let born : c.args.s < length w.scopes = born_open w c.args.s (opened c) in
    (born, omega (arith, born, c.self.invariant.0.as_many, length-map w.scopes is_shut))

pub index_mut-requires : goal.index_mut-requires
index_mut-requires c = omega (arith, (bounds (goal.at.index_mut-requires c).After-self).1)

pub index_mut-requires-in-Err : goal.index_mut-requires-in-Err
index_mut-requires-in-Err c = omega (arith, (bounds (goal.at.index_mut-requires-in-Err c).After-self).1)

-- the family that has the subtask which is taken back
added : (c : After-index_mut-in-Err)
    → c.index_mut-in-Err.result.now ≡ with_child c.index_mut.result.now c.tasks_born-child.result (not c.is_cancelled-started.result)
added c =
    let bound = (bounds (goal.at.take_back-requires-clause-some c).After-self).1 in
    c.index_mut-in-Err.ensures.value ∙ get_or-set_same c.self.inside.families.items c.args.s c.add.new.self _ bound ∙ c.in_ok-add.ensures.ok

pub take_back-requires-clause-some : goal.take_back-requires-clause-some
take_back-requires-clause-some c =
    let path = (goal.at.take_back-requires-clause-some c).After-index_mut-in-Err in
    child_some c.index_mut.result.now _ c.tasks_born-child.result (not c.is_cancelled-started.result) (added path)

pub take_back-requires-clause-fits : goal.take_back-requires-clause-fits
take_back-requires-clause-fits c =
    let path = (goal.at.take_back-requires-clause-fits c).After-index_mut-in-Err in
    child_fits c.index_mut.result.now _ c.tasks_born-child.result (not c.is_cancelled-started.result) (added path) c.add.ensures.bound

pub invariant_of-self-in-Err : goal.invariant_of-self-in-Err
invariant_of-self-in-Err c =
    let family = c.index_mut.result.now in
    let child = added (goal.at.invariant_of-self-in-Err c).After-index_mut-in-Err in
    let back : c.take_back.new.self ≡ family =
    c.take_back.ensures ∙ rw child (taken_back family c.tasks_born-child.result (not c.is_cancelled-started.result)) in (
      rw c.in-Err.ensures.err (kept_back _ _ _ _ _ c.args.s c.add.new.self c.take_back.new.self family (back ∙ c.index_mut.ensures.value)
          c.self.invariant.0),
      rw (c.in-Err.ensures.err, c.reserve.ensures.items) c.self.invariant.1,
    )

-- the number of tasks that count, before
count : (c : After-standing_tasks-tasks) → c.standing_tasks-tasks.result ≡ c.self.inside.standing_tasks
count c = c.standing_tasks-tasks.ensures.value ∙ ap standing.standing_tasks (sym c.self.view_is) ∙ finds_tasks c.self.inside.records
    ∙ sym c.self.invariant.0.tasks

few : (c : After-standing_tasks-tasks) → c.self.inside.standing_tasks < MAX_STANDING
few c = let n = count c in omega (arith, c.requires.few, n, c.standing_tasks-tasks.ensures.value)

family : (c : goal.After-self-2-1) → c.index_mut.result.now ≡ slice_index_or c.self.inside.families.items c.args.s no_family
family c =
    let bound = (bounds (goal.at.invariant_of-self-2 c).After-self).1 in
    c.index_mut.ensures.value ∙ get_or_default c.self.inside.families.items c.args.s _ no_family bound

pub invariant_of-self-2 : goal.invariant_of-self-2
invariant_of-self-2 c =
    let w : World = c.self.inside.records in
    let path = goal.at.invariant_of-self-2 c in
    let frame = (task_at w c.args.t).frame in (
      rw (c.in_ok-add.ensures.ok, family c, c.tasks_born-child.ensures.value, c.is_cancelled-started.ensures, count path.After-standing_tasks-tasks)
          (kept_child c.args.program.now w c.fork_task.new.self _ _ _ _ c.args.t frame c.args.s c.args.function c.args.handle
          c.in_default.ensures.ok (bounds path.After-self).0 (opened path.After-self) (few path.After-standing_tasks-tasks) c.self.invariant.0),
      rw (c.in_ok-push.ensures.items, c.reserve.ensures.items)
          (ends_fork c.args.program.now w c.fork_task.new.self _ c.args.t frame c.args.s c.args.function c.args.handle
          c.in_default.ensures.ok c.self.invariant.1),
    )

pub returns-in-Err-clause-err : goal.returns-in-Err-clause-err
returns-in-Err-clause-err c = c.in-Err.ensures.err ∙ c.self.view_is

pub returns-clause-ok : goal.returns-clause-ok
returns-clause-ok c = c.in_default.ensures.ok ∙ ap
    (λ (v : World). fork_task c.args.program.now v c.args.t (task_at v c.args.t).frame c.args.s c.args.function c.args.handle)
    c.self.view_is

pub fork_task-requires : goal.fork_task-requires
fork_task-requires c =
    let e = c.self.view_is in
    let r = c.requires in
    record { born = rw e r.born; lives = rw e r.lives; more = rw e r.more; room = rw e r.room; enough = rw e r.enough }
