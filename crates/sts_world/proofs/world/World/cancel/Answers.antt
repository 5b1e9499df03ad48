use Rattle.sts_world.proofs.Ends.{ends_cancel}
use Rattle.sts_world.proofs.Worlds.{kept_cancel}
use Rattle.sts_world.proofs.world.World.cancel.Goals as goal

pub invariant_of-self : goal.invariant_of-self
invariant_of-self c = (kept_cancel _ _ _ _ _ _ _ c.cancel.ensures c.self.invariant.0, ends_cancel _ _ _ _ c.cancel.ensures c.self.invariant.1)
