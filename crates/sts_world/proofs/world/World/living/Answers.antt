use Rattle.std.proofs.Common.{refl}
use Rattle.sts_world.proofs.Staying.{stays}
use Rattle.sts_world.proofs.world.World.living.Goals as goal

pub invariant_of-self-lent : goal.invariant_of-self-lent
invariant_of-self-lent c w = stays _ _ _ _ _ _ _ _ _ w c.task.result.now.flag refl c.task.ensures.value c.self.invariant
