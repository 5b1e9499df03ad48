use Rattle.std.proofs.Common.{◌≡◌, ◌<◌, ℕ, List, [], ◌∷◌, ◌++◌, ◌+◌, Bool, length, drop, if◌then◌else◌, refl, sym, ap, ◌∙◌, arith}
use Rattle.std.proofs.lemmas.List.{at_drop_more}
use Rattle.serde_json.specs.Data.{Data}
use Rattle.serde_json.specs.View.{view}
use Rattle.sts_code.specs.Program.{Program}
use Rattle.sts_model.specs.Living.{lives}
use Rattle.sts_model.specs.World.{World, no_task, task_at}
use Rattle.sts_model.specs.declared.record.Task.{Task}
use Rattle.look_views.specs.Task.{task, living_tasks, maybe_living}
use Rattle.look_views.proofs.ListLemmas.{next_part, no_value, one_value}
use Rattle.look_views.proofs.tasks.living_tasks.Goals.{then-lives+in_ok-task+in_ok-push, else-lives}
use Rattle.look_views.proofs.tasks.living_tasks.Goals as goal

-- what is shown of the next task, which lives or doesn't
next_living : (text : List ℕ) (p : Program) (full : Bool) (w : World) (t : ℕ) → t < length w.tasks
    → living_tasks text p full w (drop t w.tasks) t ≡ maybe_living text p full w t ++ living_tasks text p full w (drop (t + 1) w.tasks) (t + 1)
next_living text p full w t born = at_drop_more (λ (xs : List Task). living_tasks text p full w xs t) w.tasks t no_task born

-- a task that lives is shown
abbrev chosen : Data → Bool → List Data
chosen shown lives = if lives then shown ∷ [] else []

pub loop-t-preserved : goal.loop-t-preserved
loop-t-preserved c =
    let world = c.args.watch.now.last in
    let shown = task c.args.names.now c.args.watch.now.program c.args.full world c.loop-t.t in
    let stands = c.records-records.ensures ∙ c.world.ensures in
    let born = c.tasks_born-t-end.ensures.value ∙ ap (λ (w : World). length w.tasks) stands in
    let living = c.lives.ensures.value ∙ ap (λ (w : World). lives (task_at w c.loop-t.t)) stands in
    next_part view c.loop-t.list.items c.if-lives.list.items (chosen shown (lives (task_at world c.loop-t.t))) _ _ _ c.loop-t.invariant
    (next_living c.args.names.now c.args.watch.now.program c.args.full world c.loop-t.t (omega (arith, born, c.loop-t-test.true))) (elim c.if-lives.branch [
      | then-lives+in_ok-task+in_ok-push w ↦ rw w.list-is (one_value view c.loop-t.list.items w.push.new.self.items _ shown _
          (ap (chosen shown) (sym living ∙ w.if-lives.true)) w.in_ok-task.ensures w.in_ok-push.ensures.items)
      | else-lives w ↦ rw w.list-is (no_value view c.loop-t.list.items c.loop-t.list.items _ (ap (chosen shown) (sym living ∙ w.if-lives.false)) refl)
    ])
