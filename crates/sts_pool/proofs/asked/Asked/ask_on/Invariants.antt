use Rattle.std.specs.Prelude.{◌-◌}
use Rattle.sts_pool.proofs.asked.Asked.ask_on.Given as goal

abbrev pub decreases-loop : goal.decreases-loop
decreases-loop g l = 4096 - l.self.outside
