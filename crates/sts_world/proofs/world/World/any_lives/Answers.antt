use Rattle.std.proofs.Common.{◌∙◌, ap}
use Rattle.sts_model.specs.Living.{any_lives}
use Rattle.sts_model.specs.World.{World}
use Rattle.sts_world.proofs.Worlds.{found_living}
use Rattle.sts_world.proofs.world.World.any_lives.Goals as goal

pub returns : goal.returns
returns c = (rw c.deref.ensures.value at c.any_lives.ensures) ∙ found_living _ _ _ _ _ c.args.s c.self.invariant.0 ∙ ap
    (λ (w : World). any_lives w c.args.s) c.self.view_is
