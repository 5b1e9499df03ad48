use Rattle.std.proofs.Common.{refl}
use Rattle.sts_world.proofs.Ends.{ends_scope}
use Rattle.sts_world.proofs.Worlds.{kept_scope}
use Rattle.sts_world.proofs.world.World.set_expired.Goals as goal

pub invariant_of-self : goal.invariant_of-self
invariant_of-self c = (
  kept_scope _ _ _ _ _ _ _ _ c.set_expired.ensures refl refl c.self.invariant.0,
  ends_scope _ _ _ _ _
      c.set_expired.ensures refl c.self.invariant.1,
)
