use Rattle.sts_world.proofs.Staying.{stays}
use Rattle.sts_world.proofs.world.World.take_flag.Goals as goal

pub invariant_of-self : goal.invariant_of-self
invariant_of-self c = stays _ _ _ _ _ _ _ _ _ _ _ c.take_flag.ensures c.task.ensures.value c.self.invariant
