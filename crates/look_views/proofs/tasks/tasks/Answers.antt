use Rattle.std.proofs.Common.{List, [], ◌∷◌, length, refl, ap, ◌∙◌, arith}
use Rattle.std.proofs.lemmas.List.{at_drop_more}
use Rattle.serde_json.specs.View.{view}
use Rattle.sts_model.specs.World.{World, no_task}
use Rattle.sts_model.specs.declared.record.Task.{Task}
use Rattle.look_views.specs.Task.{task, tasks}
use Rattle.look_views.proofs.ListLemmas.{next_part, one_value}
use Rattle.look_views.proofs.tasks.tasks.Goals as goal

pub loop-t-preserved : goal.loop-t-preserved
loop-t-preserved c =
    let text = c.args.names.now in
    let program = c.args.watch.now.program in
    let world = c.args.watch.now.last in
    let shown = task text program c.args.full world c.loop-t.t in
    let born = c.tasks_born-t-end.ensures.value ∙ ap (λ (w : World). length w.tasks) (c.records-records.ensures ∙ c.world.ensures) in
    next_part view c.loop-t.list.items c.push.new.self.items (shown ∷ []) _ _ _ c.loop-t.invariant
    (at_drop_more (λ (xs : List Task). tasks text program c.args.full world xs c.loop-t.t) world.tasks c.loop-t.t no_task
    (omega (arith, born, c.loop-t-test.true)))
    (one_value view c.loop-t.list.items c.push.new.self.items _ shown (shown ∷ []) refl c.in_ok-task.ensures c.in_ok-push.ensures.items)
