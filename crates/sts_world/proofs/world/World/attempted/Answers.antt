use Rattle.sts_world.proofs.Staying.{stays}
use Rattle.sts_world.proofs.world.World.attempted.Goals as goal

pub invariant_of-self : goal.invariant_of-self
invariant_of-self c = stays _ _ _ _ _ _ _ _ _ _ _ c.leave_join.ensures c.task.ensures.value c.self.invariant
