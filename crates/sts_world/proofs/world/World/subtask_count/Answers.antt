use Rattle.std.proofs.Common.{◌≤◌, ◌∙◌, ap, length, arith}
use Rattle.sts_model.specs.Living.{subtask_count}
use Rattle.sts_model.specs.World.{World}
use Rattle.sts_world.proofs.Worlds.{found_count, found_bound}
use Rattle.sts_world.proofs.world.World.subtask_count.Goals as goal

pub returns-clause-value : goal.returns-clause-value
returns-clause-value c = ap length (rw c.deref.ensures.value at c.births.ensures) ∙ found_count _ _ _ _ _ c.args.s c.self.invariant.0 ∙ ap
    (λ (w : World). subtask_count w c.args.s) c.self.view_is

pub returns-clause-few : goal.returns-clause-few
returns-clause-few c =
    let few : length c.births.result.now ≤ length c.self.inside.records.tasks =
    rw (c.births.ensures, c.deref.ensures.value) (found_bound _ _ _ _ _ c.args.s c.self.invariant.0) in
    omega (arith, few, ap (λ (w : World). length w.tasks) c.records.view_is, c.records.invariant.0)
