use Rattle.std.proofs.Common.{List, ℕ, ◌++◌, ◌∙◌, ap}
use Rattle.std.proofs.lemmas.Result.{on_ok_weaker}
use Rattle.std.specs.List.{flat_map}
use Rattle.sts_model.specs.World.{World}
use Rattle.look_run.specs.Lines.{subtask_word}
use Rattle.look_run.proofs.Subtasks.{births_words}
use Rattle.look_run.proofs.tasks.say_subtasks.Goals as goal

pub returns : goal.returns
returns c = on_ok_weaker c.say_births.result
    (λ h. h
    ∙ ap (λ (w : World). c.args.out.now.items ++ flat_map (subtask_word w c.args.s) c.subtasks.result.now) c.records.ensures
    ∙ ap (λ (births : List ℕ). c.args.out.now.items ++ flat_map (subtask_word c.args.world.now c.args.s) births) c.subtasks.ensures
    ∙ ap (λ (words : List ℕ). c.args.out.now.items ++ words) (births_words c.args.world.now c.args.s))
    c.say_births.ensures
