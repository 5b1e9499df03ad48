use Rattle.std.proofs.Common.{◌∙◌, ap}
use Rattle.sts_model.specs.World.{World}
use Rattle.sts_world.specs.Kept.{births}
use Rattle.sts_world.specs.Lines.{lines}
use Rattle.sts_world.proofs.Worlds.{found_births}
use Rattle.sts_world.proofs.world.World.subtasks.Goals as goal

pub returns : goal.returns
returns c = (rw c.deref.ensures.value at c.births.ensures) ∙ found_births _ _ _ _ _ c.args.s c.self.invariant.0 ∙ ap
    (λ (w : World). births c.args.s (lines w).tasks) c.self.view_is
