use Rattle.std.proofs.Common.{◌≡◌, ◌∙◌, false, sym}
use Rattle.look_tell.specs.Line.{has_task}
use Rattle.look_tell.proofs.words.Told.say_idle_task.Goals as goal

pub returns-else-has_task : goal.returns-else-has_task
returns-else-has_task c =
    let known : has_task c.args.self.story.now c.args.t ≡ false = sym c.has_task.ensures ∙ c.if-has_task.false in
    rw known c.say_numbered.ensures
