use Rattle.std.proofs.Common.{ℕ, ◌+◌, ◌∙◌, ap}
use Rattle.sts_model.specs.World.{scope_at}
use Rattle.sts_world.proofs.Worlds.{count_told}
use Rattle.sts_world.proofs.world.World.told.Goals as goal

pub returns : goal.returns
returns c = ap (λ (n : ℕ × ℕ). n.0 + n.1) c.completed-successes.ensures ∙ count_told (scope_at c.args.self.now c.args.s)
