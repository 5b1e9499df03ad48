use Rattle.std.proofs.Common.{◌++◌, ◌∙◌, [], ap, codes, if◌then◌else◌, not}
use Rattle.std.proofs.lemmas.Result.{on_ok_weaker}
use Rattle.sts_model.specs.World.{World, task_at}
use Rattle.laws_words.proofs.AppendLemmas.{three_said}
use Rattle.look_tell.proofs.words.Told.say_forks.Goals as goal

pub returns : goal.returns
returns c =
    let started = c.has_started-never.ensures ∙ ap (λ (w : World). (task_at w c.args.t).started) c.records.ensures in
    on_ok_weaker c.say_if.result
    (λ h. three_said _ _ _ c.args.out.now.items _ _ _ c.in_ok-say.ensures c.in_ok-say_task.ensures
    (h ∙ ap (λ b. c.say_task.new.out.items ++ (if not b then codes ", which never starts: its scope was cancelled" else [])) started))
    c.say_if.ensures
