use Rattle.std.proofs.Common.{List, length, ap, ◌∙◌, arith}
use Rattle.std.proofs.lemmas.List.{at_drop_more}
use Rattle.laws_words.proofs.AppendLemmas.{part_said}
use Rattle.sts_model.specs.World.{World, no_task}
use Rattle.sts_model.specs.declared.record.Task.{Task}
use Rattle.look_run.specs.Lines.{living_line, living_lines}
use Rattle.look_run.proofs.states.Told.say_living.Goals as goal

pub loop-t-preserved : goal.loop-t-preserved
loop-t-preserved c =
    let text = c.args.self.names.now in
    let program = c.args.self.program.now in
    let world = c.args.world.now in
    let born = c.tasks_born-t-end.ensures.value ∙ ap (λ (w : World). length w.tasks) c.records.ensures in
    part_said c.loop-t.out.items c.say_if_living.new.out.items (living_line text program world c.loop-t.t) _ _ _ c.loop-t.invariant
    (at_drop_more (λ (xs : List Task). living_lines text program world xs c.loop-t.t) world.tasks c.loop-t.t no_task (omega (arith, born, c.loop-t-test.true)))
    c.in_ok-say_if_living.ensures
